-- From what a check finds to the answer. Assumes nothing.
use Rattle.std.proofs.Common.{◌≡◌, ℕ, zero, suc, ◌+◌, ◌<◌, Bool, true, false, cond, not, ◌||◌, T, eqb, List, [], ◌∷◌, length, Some, None, Option, sym, refl, ap, ◌∙◌, subst, ap₂, arith, lit<}
use Rattle.std.proofs.lemmas.Bool.Decides.{nat_tests}
use Rattle.fault.specs.declared.Fault.{Fault}
use Rattle.fault.specs.Table.{plain_fault}
use Rattle.graph.specs.Paths.{member}
use Rattle.line.specs.declared.label.Label.{Label}
use Rattle.line.specs.Words.{same_label}
use Rattle.numbering.specs.Numbers.{known, number, number_in}
use Rattle.reach.specs.Lowest.{Lowest}
use Rattle.wellformed.specs.Faults.{Fault as SealFault, Empty, Dangling, Enters, code, Fits, Clean}
use Rattle.wellformed.specs.Lines.{at, dangles, targets, nexts_at}
use Rattle.wellformed.proofs.Judged.{clean_none, named_in, pass}
use Rattle.program.specs.Asked.{asks, nexts}
use Rattle.program.specs.Refusals.{kind_of, Refused, LowestLine, labels_of, same_line_number, one_leads, Leads}
use Rattle.program.specs.Written.{Lines}

module _ (ls : Lines) (f : SealFault) (clean : Clean asks ls (code f)) (some : Fits asks ls f 0 → ⊥) where
  -- a line was found: it is in the draft, and the refusal is right
  pub line_found : (k : ℕ) → LowestLine (Fits asks ls f) (Some k) → k < length ls
  line_found k h = let i = named_in asks ls f (suc k) h.0 in omega arith

  pub refuse : (k : ℕ) → LowestLine (Fits asks ls f) (Some k) → (g : Fault) → g ≡ plain_fault (kind_of f) (k + 1) → Refused ls g
  refuse k h g e = record {
    fault = f;
    line = suc k;
    first = record { fits = h.0; rising = clean; lowest = lower };
    named = e ∙ ap (plain_fault (kind_of f)) (let q : k + 1 ≡ suc k = omega arith in q);
  }
    where
      lower : (m : ℕ) → m < suc k → Fits asks ls f m → ⊥
      lower zero i t = some t
      lower (suc m) i t = h.1 m (omega arith) t

  -- none was found
  pub go_on : LowestLine (Fits asks ls f) None → Clean asks ls (suc (code f))
  go_on h = pass asks ls f clean none
    where
      none : (m : ℕ) → Fits asks ls f m → ⊥
      none zero t = some t
      none (suc m) t = h m t

lowest_map : (F G : ℕ → Type 0) → ((k : ℕ) → F (suc k) → G (suc k)) → ((k : ℕ) → G (suc k) → F (suc k)) → (r : Option ℕ) → LowestLine F r → LowestLine G r
lowest_map F G to from None h = λ k t. h k (from k t)
lowest_map F G to from (Some k) h = (to k h.0, λ m i t. h.1 m i (from m t))

-- the lowest line that is not reached
pub lowest_line : (P F : ℕ → Type 0) (c : ℕ) → ((k : ℕ) → F (suc k) → (k < c) × (P k → ⊥)) → ((k : ℕ) → (k < c) × (P k → ⊥) → F (suc k)) → (r : Option ℕ) → Lowest P c r → LowestLine F r
lowest_line P F c to from None h = λ k t. let g = to k t in g.1 (h k g.0)
lowest_line P F c to from (Some k) h = (from k (h.0, h.1), λ m i t. (to m t).1 (h.2 m i))

-- labels that stand on no line, and on the first

unknown_one : (ls : Lines) (a : Label) → same_line_number (number_in same_label a (labels_of ls)) None ≡ not (known same_label a (labels_of ls))
unknown_one ls a = by (known same_label a (labels_of ls))
  where
    by : (b : Bool) → same_line_number (cond b (Some (number same_label a (labels_of ls))) None) None ≡ not b
    by true = refl
    by false = refl

unknown : (ls : Lines) (ks : List Label) → one_leads ls None ks ≡ dangles asks ls ks
unknown ls [] = refl
unknown ls (a ∷ ks) = ap₂ ◌||◌ (unknown_one ls a) (unknown ls ks)

at_same : {X : Type 0} (p r : X → Bool) → ((x : X) → p x ≡ r x) → (d : List X) (k : ℕ) → at p d k ≡ at r d k
at_same p r e [] k = refl
at_same p r e (x ∷ d) zero = e x
at_same p r e (x ∷ d) (suc k) = at_same p r e d k

pub lowest_dangling : (ls : Lines) (r : Option ℕ) → LowestLine (Leads ls None) r → LowestLine (Fits asks ls Dangling) r
lowest_dangling ls = lowest_map (Leads ls None) (Fits asks ls Dangling) (λ k. subst T (same k)) (λ k. subst T (sym (same k)))
  where
    same : (k : ℕ) → at (λ x. one_leads ls None (nexts x)) ls k ≡ at (λ x. dangles asks ls (nexts x)) ls k
    same k = at_same (λ x. one_leads ls None (nexts x)) (λ x. dangles asks ls (nexts x)) (λ x. unknown ls (nexts x)) ls k

first_one : (ls : Lines) (a : Label) → known same_label a (labels_of ls) ≡ true → same_line_number (number_in same_label a (labels_of ls)) (Some 0) ≡ eqb 0 (number same_label a (labels_of ls))
first_one ls a k = ap (λ b. same_line_number (cond b (Some (number same_label a (labels_of ls))) None) (Some 0)) k ∙ swap (number same_label a (labels_of ls))
  where
    swap : (n : ℕ) → eqb n 0 ≡ eqb 0 n
    swap n = grind (arith, nat_tests)

-- where no label is wanting
enters : (ls : Lines) (ks : List Label) → (T (dangles asks ls ks) → ⊥) → one_leads ls (Some 0) ks ≡ member 0 (targets asks ls ks)
enters ls [] f = refl
enters ls (a ∷ ks) f = by (known same_label a (labels_of ls)) refl f (enters ls ks)
  where
    by : (b : Bool) → known same_label a (labels_of ls) ≡ b → (T (not b || dangles asks ls ks) → ⊥) → ((T (dangles asks ls ks) → ⊥) → one_leads ls (Some 0) ks ≡ member 0 (targets asks ls ks))
        → (same_line_number (number_in same_label a (labels_of ls)) (Some 0) || one_leads ls (Some 0) ks) ≡ (eqb 0 (number same_label a (labels_of ls)) || member 0 (targets asks ls ks))
    by true e f g = ap₂ ◌||◌ (first_one ls a e) (g f)
    by false e f g = absurd (f tt)

enters_at : (ls d : Lines) (k : ℕ) → (T (at (λ x. dangles asks ls (nexts x)) d k) → ⊥) → at (λ x. one_leads ls (Some 0) (nexts x)) d k ≡ member 0 (targets asks ls (nexts_at asks d k))
enters_at ls [] k f = refl
enters_at ls (x ∷ d) zero f = enters ls (nexts x) f
enters_at ls (x ∷ d) (suc k) f = enters_at ls d k f

pub lowest_entering : (ls : Lines) → Clean asks ls 10 → (r : Option ℕ) → LowestLine (Leads ls (Some 0)) r → LowestLine (Fits asks ls Enters) r
lowest_entering ls clean = lowest_map (Leads ls (Some 0)) (Fits asks ls Enters) (λ k. subst T (same k)) (λ k. subst T (sym (same k)))
  where
    same : (k : ℕ) → at (λ x. one_leads ls (Some 0) (nexts x)) ls k ≡ member 0 (targets asks ls (nexts_at asks ls k))
    same k = enters_at ls ls k (clean Dangling (suc k) (lit< tt))

-- lines, or none

pub refuse_empty : (ls : Lines) → length ls ≡ 0 → (g : Fault) → g ≡ plain_fault (kind_of Empty) 0 → Refused ls g
refuse_empty ls z g e = record { fault = Empty; line = 0; first = record { fits = z; rising = clean_none asks ls; lowest = λ m i. absurd (omega arith) }; named = e }

pub some_lines : (ls : Lines) → (length ls ≡ 0 → ⊥) → Clean asks ls 8
some_lines ls ne = pass asks ls Empty (clean_none asks ls) none
  where
    none : (m : ℕ) → Fits asks ls Empty m → ⊥
    none zero t = ne t
    none (suc m) t = t
