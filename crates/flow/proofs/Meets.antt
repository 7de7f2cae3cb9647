-- Meets, and what comes in over edges. Assumes nothing.
use Rattle.std.proofs.Common.{◌≡◌, ℕ, suc, ◌+◌, ◌<◌, ◌≤◌, Bool, true, false, cond, eqb, List, [], ◌∷◌, sym, refl, ap, subst, ◌∙◌, ap₂, arith}
use borrow.Author.Tests.{eqb-false}
use Rattle.std.specs.List.{All}
use Rattle.graph.specs.Shapes.{times, AllBelow}
use Rattle.graph.specs.EdgeLists.{fact_below}
use Rattle.facts.specs.Order.{Below}
use Rattle.flow.specs.Equations.{inflow}

pub record Laws {F : Type 0} (top : F) (meet : F → F → F) : Type 0 where
  pub assoc : (a b c : F) → meet (meet a b) c ≡ meet a (meet b c)
  pub comm : (a b : F) → meet a b ≡ meet b a
  pub idem : (a : F) → meet a a ≡ a
  pub neutral : (a : F) → meet top a ≡ a

pub laws_of : {F : Type 0} {top : F} {meet : F → F → F} → ((a b c : F) → meet (meet a b) c ≡ meet a (meet b c)) → ((a b : F) → meet a b ≡ meet b a) → ((a : F) → meet a a ≡ a) → ((a : F) → meet top a ≡ a) → Laws top meet
laws_of p q r s = record { assoc = p; comm = q; idem = r; neutral = s }

-- what stands in the list of a node's neighbours is a node
pub all_nodes : (c : ℕ) (l ms : List ℕ) → c ≤ 288 → AllBelow c l → ms ≡ l → All (λ n. n < 288) ms
all_nodes c l ms most h e k d i = omega (arith, fact_below c ms (subst (AllBelow c) (sym e) h) k d i)

-- the first of some nodes, and the others

pub first_node : (m : ℕ) (ls ms : List ℕ) → ms ≡ m ∷ ls → All (λ n. n < 288) ms → m < 288
first_node m ls ms e h = subst (All (λ n. n < 288)) e h 0 m (omega arith)

pub other_nodes : (m : ℕ) (ls ms : List ℕ) → ms ≡ m ∷ ls → All (λ n. n < 288) ms → All (λ n. n < 288) ls
other_nodes m ls ms e h k d i = subst (All (λ n. n < 288)) e h (suc k) d (omega arith)

module _ {F : Type 0} {top : F} {meet : F → F → F} (laws : Laws top meet) where
  pub below_refl : (a : F) → Below meet a a
  below_refl a = laws.idem a

  pub below_trans : (a b c : F) → Below meet a b → Below meet b c → Below meet a c
  below_trans a b c p q = ap (λ x. meet x c) (sym p) ∙ laws.assoc a b c ∙ ap (meet a) q ∙ p

  pub below_top : (a : F) → Below meet a top
  below_top a = laws.comm a top ∙ laws.neutral a

  pub below_left : (a b : F) → Below meet (meet a b) a
  below_left a b = laws.comm (meet a b) a ∙ sym (laws.assoc a a b) ∙ ap (λ x. meet x b) (laws.idem a)

  pub below_right : (a b : F) → Below meet (meet a b) b
  below_right a b = laws.assoc a b b ∙ ap (meet a) (laws.idem b)

  pub below_both : (x a b : F) → Below meet x a → Below meet x b → Below meet x (meet a b)
  below_both x a b p q = sym (laws.assoc x a b) ∙ ap (λ y. meet y b) p ∙ q

  pub meet_mono : (a b c d : F) → Below meet a c → Below meet b d → Below meet (meet a b) (meet c d)
  meet_mono a b c d p q =
      below_both (meet a b) c d (below_trans (meet a b) a c (below_left a b) p) (below_trans (meet a b) b d (below_right a b) q)

  module _ (step : ℕ → F → F) where
    pub inflow_next : (f : ℕ → F) (m : ℕ) (ls ms : List ℕ) (a b : F) → ms ≡ m ∷ ls → b ≡ meet a (step m (f m))
        → meet b (inflow top meet step f ls) ≡ meet a (inflow top meet step f ms)
    inflow_next f m ls ms a b e v =
        let rest = inflow top meet step f ls in
        ap (λ x. meet x rest) v ∙ laws.assoc a (step m (f m)) rest ∙ sym (ap (λ l. meet a (inflow top meet step f l)) e)

    pub inflow_mono : ((n : ℕ) (a b : F) → Below meet a b → Below meet (step n a) (step n b)) → (c : ℕ) (f g : ℕ → F) → ((n : ℕ) → n < c → Below meet (f n) (g n))
        → (ms : List ℕ) → AllBelow c ms → Below meet (inflow top meet step f ms) (inflow top meet step g ms)
    inflow_mono mono c f g h [] l = below_refl top
    inflow_mono mono c f g h (m ∷ ms) l =
        meet_mono _ _ _ _ (mono m (f m) (g m) (h m l.0)) (inflow_mono mono c f g h ms l.1)

    pub inflow_other : (f g : ℕ → F) (n : ℕ) → ((m : ℕ) → (m ≡ n → ⊥) → f m ≡ g m) → (ms : List ℕ) → times n ms ≡ 0
        → inflow top meet step f ms ≡ inflow top meet step g ms
    inflow_other f g n h [] z = refl
    inflow_other f g n h (m ∷ ms) z = by (eqb m n) refl z (λ q. inflow_other f g n h ms q)
      where
        by : (b : Bool) → eqb m n ≡ b → cond b 1 0 + times n ms ≡ 0 → (times n ms ≡ 0 → inflow top meet step f ms ≡ inflow top meet step g ms)
            → inflow top meet step f (m ∷ ms) ≡ inflow top meet step g (m ∷ ms)
        by true e q ih = absurd (omega arith)
        by false e q ih = ap₂ meet (ap (step m) (h m (eqb-false m n e))) (ih (omega arith))
