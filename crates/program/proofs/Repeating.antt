-- Labels that are numbered one after another. Assumes nothing.
use Rattle.std.proofs.Common.{◌≡◌, ℕ, suc, ◌+◌, ◌<◌, ◌≤◌, T, ◌⊎◌, List, [], ◌∷◌, ◌++◌, length, get_or, take, ℤ, Ok, Result, sym, ap, ◌∙◌, subst, inl, inr, le_of_lt, arith}
use Rattle.std.proofs.lemmas.List.{map_push, length-map, length-take-le}
use Rattle.line.specs.declared.label.Label.{Label}
use Rattle.line.specs.declared.syntax.Line.{Line}
use Rattle.line.specs.Words.{same_label}
use Rattle.line.specs.Tokens.{label_decides}
use Rattle.numbering.specs.declared.list.NoRoom.{NoRoom}
use Rattle.numbering.specs.Lists.{Answered}
use Rattle.numbering.specs.Numbers.{Laws, known, number, entered}
use Rattle.numbering.proofs.Appearance.{number_in}
use Rattle.std.specs.Cmp.{decided}
use Rattle.numbering.proofs.Deciding.{equivalence_laws}
use Rattle.numbering.proofs.Entering.{way, known_way, new_way, full_way}
use Rattle.wellformed.specs.Faults.{Repeated, Fits}
use Rattle.wellformed.proofs.Lined.{at_read}
use Rattle.program.specs.Asked.{asks}
use Rattle.program.specs.Refusals.{labels_of}
use Rattle.program.specs.Written.{Lines}
use Rattle.program.proofs.Scanning.{take_step}

pub label_laws : Laws same_label
label_laws = equivalence_laws (decided same_label label_decides)

-- line k is numbered after those before it
module _ (ls : Lines) (k : ℕ) (x : Line ℤ) (i : k < length ls) (e : x ≡ get_or ls k x) (items : List Label) (held : items ≡ labels_of (take k ls)) where
  size : length items ≡ k
  size = ap length held ∙ length-map (take k ls) (λ x. x.label) ∙ length-take-le k ls (le_of_lt i)

  more : labels_of (take (k + 1) ls) ≡ labels_of (take k ls) ++ (x.label ∷ [])
  more = ap labels_of (take_step ls k x i e) ∙ map_push (λ x. x.label) (take k ls) x

  -- the fault is that the label is known
  fits : (Fits asks ls Repeated (suc k)) ≡ T (known same_label x.label items)
  fits = ap T (at_read (λ y. known same_label y.label (labels_of (take k ls))) ls k x i e ∙ ap (known same_label x.label) (sym held))

  pub repeats : (room : ℕ) (r : Result ℕ NoRoom) (after : List Label) → length ls ≤ room → Answered (entered same_label room x.label items) r after
      → ((r ≡ Ok k) × (after ≡ labels_of (take (k + 1) ls)) × (Fits asks ls Repeated (suc k) → ⊥)) ⊎ ((r ≡ Ok k → ⊥) × Fits asks ls Repeated (suc k))
  repeats room r after enough answered = elim (way same_label room x.label items r after answered) [
    | known_way p q s ↦
        let less = number_in label_laws x.label items (subst T (sym p) tt) in
        let n = size in
        inr ((λ z. let w : k ≡ number same_label x.label items = cc in omega arith), subst (λ (P : Type 0). P) (sym fits) (subst T (sym p) tt))
    | new_way p l q s ↦ inl (q ∙ ap Ok size, s ∙ ap (λ (t : List Label). t ++ (x.label ∷ [])) held ∙ sym more, λ t. subst T p (subst (λ (P : Type 0). P) fits t))
    | full_way p l q s ↦ let n = size in absurd (omega arith)
  ]
