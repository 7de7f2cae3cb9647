-- The line that halts, among the lines so far. Assumes nothing.
use Rattle.std.proofs.Common.{◌≡◌, ℕ, zero, suc, ◌+◌, ◌<◌, ◌≤◌, Bool, true, false, cond, ◌&&◌, ◌||◌, T, [], ◌∷◌, ◌++◌, length, get_or, take, ℤ, is_some, Some, None, Option, sym, refl, ap, ◌∙◌, subst, le_of_lt, arith}
use Rattle.std.proofs.lemmas.List.{take_all, length-take-le}
use Rattle.std.proofs.lemmas.Bool.{false≢true}
use Rattle.numbering.specs.Numbers.{unless}
use Rattle.numbering.proofs.Bools.{and_i, and_l, and_r}
use Rattle.line.specs.declared.syntax.Line.{Line}
use Rattle.fault.specs.declared.Fault.{Fault}
use Rattle.fault.specs.declared.Kind.TheVariants.{NotOneHalt}
use Rattle.fault.specs.Table.{plain_fault}
use Rattle.wellformed.specs.Faults.{Halts, Fits, Clean}
use Rattle.wellformed.specs.Lines.{halting}
use Rattle.wellformed.proofs.Judged.{named_in, pass}
use Rattle.wellformed.proofs.Lined.{at_read}
use Rattle.program.specs.Asked.{asks, halts_at}
use Rattle.program.specs.Refusals.{Refused}
use Rattle.program.specs.Written.{Lines, exit_line}
use Rattle.program.proofs.Scanning.{take_step}

-- one line further down
abbrev up : Option ℕ → Option ℕ
up None = None
up (Some n) = Some (suc n)

abbrev or_else : Option ℕ → Option ℕ → Option ℕ
or_else None o = o
or_else (Some n) o = Some n

-- the first line that halts
abbrev pub halt_of : Lines → Option ℕ
halt_of [] = None
halt_of (x ∷ ls) = cond (halts_at x.statement) (Some 0) (up (halt_of ls))

halt_told : (ls : Lines) → halt_of ls ≡ cond (halting asks ls) (Some (exit_line ls)) None
halt_told [] = refl
halt_told (x ∷ ls) = by (halts_at x.statement) (halting asks ls) (halt_told ls)
  where
    by : (b c : Bool) → halt_of ls ≡ cond c (Some (exit_line ls)) None → cond b (Some 0) (up (halt_of ls)) ≡ cond (b || c) (Some (unless b (exit_line ls))) None
    by true c h = refl
    by false true h = ap up h
    by false false h = ap up h

halt_push : (ls : Lines) (x : Line ℤ) → halt_of (ls ++ (x ∷ [])) ≡ or_else (halt_of ls) (cond (halts_at x.statement) (Some (length ls)) None)
halt_push [] x = refl
halt_push (y ∷ ls) x = by (halts_at y.statement) (halt_of ls) (halts_at x.statement) (halt_push ls x)
  where
    by : (b : Bool) (o : Option ℕ) (c : Bool) → halt_of (ls ++ (x ∷ [])) ≡ or_else o (cond c (Some (length ls)) None)
        → cond b (Some 0) (up (halt_of (ls ++ (x ∷ [])))) ≡ or_else (cond b (Some 0) (up o)) (cond c (Some (suc (length ls))) None)
    by true o c h = refl
    by false None true h = ap up h
    by false None false h = ap up h
    by false (Some n) c h = ap up h

-- a line halts exactly if one is told
some_halts : (ls : Lines) (n : ℕ) → halt_of ls ≡ Some n → T (halting asks ls) × (n ≡ exit_line ls)
some_halts ls n e = by (halting asks ls) (sym e ∙ halt_told ls)
  where
    by : (b : Bool) → Some n ≡ cond b (Some (exit_line ls)) None → T b × (n ≡ exit_line ls)
    by true h = (tt, cc)
    by false h = absurd (let z : ◌≡◌ {A = ℕ} 0 1 = cc in omega arith)

none_halts : (ls : Lines) → halt_of ls ≡ None → T (halting asks ls) → ⊥
none_halts ls e = by (halting asks ls) (sym e ∙ halt_told ls)
  where
    by : (b : Bool) → None ≡ cond b (Some (exit_line ls)) None → T b → ⊥
    by true h t = absurd (let z : ◌≡◌ {A = ℕ} 0 1 = cc in omega arith)
    by false h t = t

-- one was found, or none
pub was_found : (ls : Lines) (o : Option ℕ) → o ≡ halt_of ls → true ≡ is_some o → T (halting asks ls)
was_found ls None e t = absurd (false≢true (sym t))
was_found ls (Some n) e t = (some_halts ls n (sym e)).0

pub none_found : (ls : Lines) (o : Option ℕ) → o ≡ halt_of ls → false ≡ is_some o → halt_of ls ≡ None
none_found ls None e t = sym e
none_found ls (Some n) e t = absurd (false≢true t)

-- no second halt among the first n lines
abbrev pub Passed : Lines → ℕ → Type 0
Passed ls n = (k : ℕ) → k < n → Fits asks ls Halts (suc k) → ⊥

module _ (ls : Lines) (k : ℕ) (x : Line ℤ) (i : k < length ls) (e : x ≡ get_or ls k x) where
  fits : Fits asks ls Halts (suc k) ≡ T (halts_at x.statement && halting asks (take k ls))
  fits = ap T (at_read (λ y. halts_at y.statement && halting asks (take k ls)) ls k x i e)

  after : halt_of (take (k + 1) ls) ≡ or_else (halt_of (take k ls)) (cond (halts_at x.statement) (Some k) None)
  after = ap halt_of (take_step ls k x i e) ∙ halt_push (take k ls) x ∙ ap (λ n. or_else (halt_of (take k ls)) (cond (halts_at x.statement) (Some n) None)) (length-take-le k ls (le_of_lt i))

  -- it does not halt
  pub runs_on : (halt : Option ℕ) → halts_at x.statement ≡ false → halt ≡ halt_of (take k ls) → (halt ≡ halt_of (take (k + 1) ls)) × (Fits asks ls Halts (suc k) → ⊥)
  runs_on halt n h = (
    by halt (halt_of (take k ls)) h ∙ sym (after ∙ ap (λ b. or_else (halt_of (take k ls)) (cond b (Some k) None)) n),
    (λ t. subst T n (and_l (halts_at x.statement) (halting asks (take k ls)) (subst (λ (P : Type 0). P) fits t))),
  )
    where
      by : (a b : Option ℕ) → a ≡ b → a ≡ or_else b None
      by a None q = q
      by a (Some m) q = q

  -- it is the first that halts
  pub first_halts : halts_at x.statement ≡ true → halt_of (take k ls) ≡ None → (Some k ≡ halt_of (take (k + 1) ls)) × (Fits asks ls Halts (suc k) → ⊥)
  first_halts y h = (
    sym (after ∙ ap (λ o. or_else o (cond (halts_at x.statement) (Some k) None)) h ∙ ap (λ b. cond b (Some k) None) y),
    (λ t. none_halts (take k ls) h (and_r (halts_at x.statement) (halting asks (take k ls)) (subst (λ (P : Type 0). P) fits t))),
  )

  -- it is the second
  pub second_halts : halts_at x.statement ≡ true → T (halting asks (take k ls)) → Fits asks ls Halts (suc k)
  second_halts y h = subst (λ (P : Type 0). P) (sym fits) (and_i (halts_at x.statement) (halting asks (take k ls)) (subst T (sym y) tt) h)

halting_take : (ls : Lines) (k : ℕ) → T (halting asks (take k ls)) → T (halting asks ls)
halting_take [] zero t = t
halting_take [] (suc k) t = t
halting_take (x ∷ ls) zero t = absurd t
halting_take (x ∷ ls) (suc k) t = by (halts_at x.statement) t (halting_take ls k)
  where
    by : (b : Bool) → T (b || halting asks (take k ls)) → (T (halting asks (take k ls)) → T (halting asks ls)) → T (b || halting asks ls)
    by true t f = tt
    by false t f = f t

module _ (ls : Lines) (clean : Clean asks ls 10) where
  -- refused at the second halt
  pub refuse_second : (k : ℕ) → Fits asks ls Halts (suc k) → T (halting asks (take k ls)) → Passed ls k → (f : Fault) → f ≡ plain_fault NotOneHalt (k + 1) → Refused ls f
  refuse_second k t h passed f e = record {
    fault = Halts;
    line = suc k;
    first = record { fits = t; rising = clean; lowest = lower };
    named = e ∙ ap (plain_fault NotOneHalt) (let q : k + 1 ≡ suc k = omega arith in q);
  }
    where
      lower : (m : ℕ) → m < suc k → Fits asks ls Halts m → ⊥
      lower zero i u = u (halting_take ls k h)
      lower (suc m) i u = passed m (omega arith) u

  module _ (k : ℕ) (all : length ls ≤ k) (passed : Passed ls k) where
    -- refused for want of a halt
    pub refuse_none : None ≡ halt_of (take k ls) → (f : Fault) → f ≡ plain_fault NotOneHalt 0 → Refused ls f
    refuse_none h f e = record {
      fault = Halts;
      line = 0;
      first = record { fits = none_halts ls (sym (h ∙ ap halt_of (take_all k ls all))); rising = clean; lowest = λ m i. absurd (omega arith) };
      named = e;
    }

    pub one_halts : (n : ℕ) → Some n ≡ halt_of (take k ls) → (n ≡ exit_line ls) × Clean asks ls 11
    one_halts n h =
        let one = some_halts ls n (sym (h ∙ ap halt_of (take_all k ls all))) in
        (one.1, pass asks ls Halts clean none)
      where
        none : (m : ℕ) → Fits asks ls Halts m → ⊥
        none zero t = t (some_halts ls n (sym (h ∙ ap halt_of (take_all k ls all)))).0
        none (suc m) t = passed m (let i = named_in asks ls Halts (suc m) t in omega arith) t
