-- What the solver keeps from visit to visit. Assumes nothing.
use Rattle.std.proofs.Common.{◌≡◌, ℕ, zero, suc, ◌+◌, ◌-◌, ◌*◌, ◌<◌, ◌≤◌, Bool, true, false, cond, eqb, List, ◌∷◌, length, get_or, set, replicate, sym, refl, ap, ◌∙◌, subst, arith, get_or-set_other, get_or-set_same, eqb-true}
use borrow.Author.Tests.{eqb-false}
use Rattle.std.proofs.lemmas.List.{length-replicate}
use Rattle.graph.specs.Shapes.{Shape, Sized, SameEdges, times, AllBelow}
use Rattle.facts.specs.Order.{Below, Fell}
use Rattle.flow.specs.Equations.{inflow, Safe}
use Rattle.flow.specs.Rings.{joined_all}
use Rattle.flow.proofs.Meets.{Laws, below_refl, below_trans, below_top, inflow_mono, inflow_other}
use Rattle.flow.specs.Falls.{Paid, paid_turn}
use Rattle.flow.proofs.Joins.{all_keeps, all_in, all_below_joined}

pub record Going {F : Type 0} (s : Shape) (top : F) (meet : F → F → F) (given : F) (step : ℕ → F → F) (f : ℕ → F) (ws : List ℕ) : Type 0 where
  pub entry_holds : f s.entry ≡ given
  -- who does not wait is settled
  pub settled : (n : ℕ) → n < s.count → (n ≡ s.entry → ⊥) → times n ws ≡ 0 → f n ≡ inflow top meet step f (s.preds n)
  -- a fact can only fall
  pub falling : (n : ℕ) → n < s.count → (n ≡ s.entry → ⊥) → Below meet (inflow top meet step f (s.preds n)) (f n)
  pub greatest : (h : ℕ → F) → Safe s top meet given step h → (n : ℕ) → n < s.count → Below meet (h n) (f n)
  pub inside : AllBelow s.count ws
  pub beyond : (n : ℕ) → s.count ≤ n → f n ≡ top

gone : (n m : ℕ) (ws : List ℕ) → (m ≡ n → ⊥) → times m ws ≡ 0 → times m (n ∷ ws) ≡ 0
gone n m ws ne z = by (eqb n m) refl
  where
    by : (b : Bool) → eqb n m ≡ b → cond b 1 0 + times m ws ≡ 0
    by true e = absurd (ne (sym (eqb-true n m e)))
    by false e = omega arith

module _ {F : Type 0} {s : Shape} {top : F} {meet : F → F → F} (laws : Laws top meet) (sized : Sized s) (edges : SameEdges s)
    {given : F} {step : ℕ → F → F} (mono : (n : ℕ) (a b : F) → Below meet a b → Below meet (step n a) (step n b)) where
  pub begin : (f : ℕ → F) (ws : List ℕ) → f s.entry ≡ given → ((n : ℕ) → (n ≡ s.entry → ⊥) → f n ≡ top) → AllBelow s.count ws → ((n : ℕ) → n < s.count → 0 < times n ws)
      → Going s top meet given step f ws
  begin f ws e others inside all = record {
    entry_holds = e;
    settled = λ n l ne z. absurd (let k = all n l in omega arith);
    falling = λ n l ne. subst (Below meet _) (sym (others n ne)) (below_top laws _);
    greatest = λ h safe n l. high h safe n (eqb n s.entry) refl;
    inside = inside;
    beyond = λ n l. others n (λ q. let b = sized.entry_in in omega arith);
  }
    where
      high : (h : ℕ → F) → Safe s top meet given step h → (n : ℕ) (b : Bool) → eqb n s.entry ≡ b → Below meet (h n) (f n)
      high h safe n true q = let i = eqb-true n s.entry q in subst (λ (m : ℕ). Below meet (h m) (f m)) (sym i) (subst (Below meet (h s.entry)) (sym e) safe.entry_holds)
      high h safe n false q = subst (Below meet (h n)) (sym (others n (eqb-false n s.entry q))) (below_top laws (h n))

  module _ (f f' : ℕ → F) (n : ℕ) (ws : List ℕ) (i : Going s top meet given step f (n ∷ ws)) (ne : n ≡ s.entry → ⊥)
      (here : f' n ≡ inflow top meet step f (s.preds n)) (there : (m : ℕ) → (m ≡ n → ⊥) → f' m ≡ f m) where
    inside_n : n < s.count
    inside_n = i.inside.0

    lower : (m : ℕ) → m < s.count → Below meet (f' m) (f m)
    lower m l = by (eqb m n) refl
      where
        by : (b : Bool) → eqb m n ≡ b → Below meet (f' m) (f m)
        by true q = subst (λ (j : ℕ). Below meet (f' j) (f j)) (sym (eqb-true m n q)) (subst (λ (x : F). Below meet x (f n)) (sym here) (i.falling n inside_n ne))
        by false q = subst (λ (x : F). Below meet x (f m)) (sym (there m (eqb-false m n q))) (below_refl laws (f m))

    flow_lower : (m : ℕ) → Below meet (inflow top meet step f' (s.preds m)) (inflow top meet step f (s.preds m))
    flow_lower m = inflow_mono laws step mono s.count f' f lower (s.preds m) (sized.preds_in m)

    -- who does not wait now did not before, and has no edge from n
    apart : (m : ℕ) → times m (joined_all (s.succs n) ws) ≡ 0 → (times m ws ≡ 0) × (times n (s.preds m) ≡ 0)
    apart m z =
        let a : times m ws ≡ 0 = zero_or (times m ws) (λ k. all_keeps m (s.succs n) ws k) in
        let b : times m (s.succs n) ≡ 0 = zero_or (times m (s.succs n)) (λ k. all_in m (s.succs n) ws k) in
        (a, sym (edges n m) ∙ b)
      where
        zero_or : (x : ℕ) → (0 < x → 0 < times m (joined_all (s.succs n) ws)) → x ≡ 0
        zero_or zero k = refl
        zero_or (suc x) k = absurd (let q = k (omega arith) in omega arith)

    pub turn : Going s top meet given step f' (joined_all (s.succs n) ws)
    turn = record {
      entry_holds = there s.entry (λ e. ne (sym e)) ∙ i.entry_holds;
      settled = λ m l ne' z. by m l ne' (apart m z) (eqb m n) refl;
      falling = λ m l ne'. fall m l ne' (eqb m n) refl;
      greatest = λ h safe m l. high h safe m l (eqb m n) refl;
      inside = all_below_joined s.count (s.succs n) ws (sized.succs_in n) i.inside.1;
      beyond = λ m l. there m (λ q. let b = inside_n in omega arith) ∙ i.beyond m l;
    }
      where
        by : (m : ℕ) → m < s.count → (m ≡ s.entry → ⊥) → (times m ws ≡ 0) × (times n (s.preds m) ≡ 0) → (b : Bool) → eqb m n ≡ b → f' m ≡ inflow top meet step f' (s.preds m)
        by m l ne' z true q =
            let k = eqb-true m n q in
            ap f' k ∙ here ∙ ap (λ j. inflow top meet step f (s.preds j)) (sym k) ∙ sym (inflow_other laws step f' f n there (s.preds m) z.1)
        by m l ne' z false q =
            let k = eqb-false m n q in
            there m k ∙ i.settled m l ne' (gone n m ws k z.0) ∙ sym (inflow_other laws step f' f n there (s.preds m) z.1)

        fall : (m : ℕ) → m < s.count → (m ≡ s.entry → ⊥) → (b : Bool) → eqb m n ≡ b → Below meet (inflow top meet step f' (s.preds m)) (f' m)
        fall m l ne' true q =
            let k = eqb-true m n q in
            subst (λ (j : ℕ). Below meet (inflow top meet step f' (s.preds j)) (f' j)) (sym k) (subst (Below meet (inflow top meet step f' (s.preds n))) (sym here) (flow_lower n))
        fall m l ne' false q =
            subst (Below meet (inflow top meet step f' (s.preds m))) (sym (there m (eqb-false m n q))) (below_trans laws _ _ _ (flow_lower m) (i.falling m l ne'))

        high : (h : ℕ → F) → Safe s top meet given step h → (m : ℕ) → m < s.count → (b : Bool) → eqb m n ≡ b → Below meet (h m) (f' m)
        high h safe m l true q =
            subst (λ (j : ℕ). Below meet (h j) (f' j)) (sym (eqb-true m n q))
            (subst (Below meet (h n)) (sym here)
            (below_trans laws _ _ _ (safe.elsewhere n inside_n ne) (inflow_mono laws step mono s.count h f (i.greatest h safe) (s.preds n) (sized.preds_in n))))
        high h safe m l false q = subst (Below meet (h m)) (sym (there m (eqb-false m n q))) (i.greatest h safe m l)

    -- the new fact lies strictly below the old one
    pub turn_falls : (Below meet (f n) (f' n) → ⊥) → Below meet (f' n) (f n) × (f' n ≡ f n → ⊥)
    turn_falls changed = (lower n inside_n, λ e. changed (subst (Below meet (f n)) (sym e) (below_refl laws (f n))))

-- ---- the same of a table of 288 facts

get_d_all : {F : Type 0} (k n : ℕ) (t d : F) → t ≡ d → get_or (replicate k t) n d ≡ d
get_d_all zero n t d e = refl
get_d_all (suc k) zero t d e = e
get_d_all (suc k) (suc n) t d e = get_d_all k n t d e

-- a visit to a node that is not the entry, and what comes in there
pub record Visit {F : Type 0} (s : Shape) (top : F) (meet : F → F → F) (given : F) (step : ℕ → F → F) : Type 0 where
  pub facts : List F
  pub node : ℕ
  pub new : F
  pub waited : List ℕ
  pub wait : List ℕ
  pub long : length facts ≡ 288
  pub going : Going s top meet given step (λ m. get_or facts m top) waited
  pub popped : waited ≡ node ∷ wait
  pub other : node ≡ s.entry → ⊥
  pub comes : new ≡ inflow top meet step (λ m. get_or facts m top) (s.preds node)

module _ {F : Type 0} {s : Shape} {top : F} {meet : F → F → F} (laws : Laws top meet) (sized : Sized s) (edges : SameEdges s)
    {given : F} {step : ℕ → F → F} (mono : (n : ℕ) (a b : F) → Below meet a b → Below meet (step n a) (step n b)) where
  pub start_table : (t x : F) (first : ℕ) (ws : List ℕ) → t ≡ top → x ≡ given → first ≡ s.entry → AllBelow s.count ws → ((n : ℕ) → n < s.count → 0 < times n ws)
      → Going s top meet given step (λ n. get_or (set (replicate 288 t) first x) n top) ws
  start_table t x first ws et ex ef inside all =
      begin laws sized edges mono (λ n. get_or (set (replicate 288 t) first x) n top) ws
      (ap (λ n. get_or (set (replicate 288 t) first x) n top) (sym ef)
      ∙ get_or-set_same (replicate 288 t) first x top (let l = length-replicate 288 t in let a = sized.entry_in in let b = sized.most in omega arith) ∙ ex)
      (λ n ne. get_or-set_other (replicate 288 t) first n x top (λ e. ne (e ∙ ef)) ∙ get_d_all 288 n t top et)
      inside all

  module _ (v : Visit s top meet given step) where
    abbrev f : ℕ → F
    f m = get_or v.facts m top

    abbrev f' : ℕ → F
    f' m = get_or (set v.facts v.node v.new) m top

    i : Going s top meet given step f (v.node ∷ v.wait)
    i = subst (Going s top meet given step f) v.popped v.going

    here : f' v.node ≡ inflow top meet step f (s.preds v.node)
    here = get_or-set_same v.facts v.node v.new top (let a = i.inside.0 in let b = sized.most in let l = v.long in omega arith) ∙ v.comes

    there : (m : ℕ) → (m ≡ v.node → ⊥) → f' m ≡ f m
    there m k = get_or-set_other v.facts v.node m v.new top k

    pub turn_table : (ws : List ℕ) → ws ≡ joined_all (s.succs v.node) v.wait → Going s top meet given step f' ws
    turn_table ws pushed = subst (Going s top meet given step f') (sym pushed) (turn laws sized edges mono f f' v.node v.wait i v.other here there)

    -- the fact fell, and so a fall was left
    pub turn_falls_table : {height left : ℕ} → ((a : F) (from : List F) → Fell meet a from → length from ≤ height)
        → (Below meet (f v.node) (inflow top meet step f (s.preds v.node)) → ⊥)
        → Paid meet height s.count f left → (1 ≤ left) × Paid meet height s.count f' (left - 1)
    turn_falls_table high changed paid =
        let fall = turn_falls laws sized edges mono f f' v.node v.wait i v.other here there (λ u. changed (subst (Below meet (f v.node)) here u)) in
        paid_turn meet _ s.count high f f' v.node i.inside.0 there fall paid

-- fewer falls are left, or fewer nodes wait
pub turn_less : (n left : ℕ) (ws ws1 ws2 : List ℕ) → ws ≡ n ∷ ws1 → 1 ≤ left → length ws2 ≤ 288 → (left - 1) * 289 + length ws2 < left * 289 + length ws
turn_less n left ws ws1 ws2 popped some short = omega arith
