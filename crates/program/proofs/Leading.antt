-- Lines that lead to a given line, or to none. Assumes nothing.
use Rattle.std.proofs.Common.{◌≡◌, ℕ, zero, suc, ◌+◌, ◌<◌, ◌≤◌, Bool, true, false, ◌||◌, T, eqb, List, [], ◌∷◌, ◌++◌, length, get_or, take, ℤ, Some, None, Option, sym, refl, ap, ◌∙◌, subst, arith}
use Rattle.std.specs.Option.{option_eq}
use Rattle.std.proofs.lemmas.List.{take_all, take_more}
use Rattle.std.proofs.lemmas.Bool.{or_right, or_left, or_from}
use Rattle.line.specs.declared.label.Label.{Label}
use Rattle.line.specs.declared.syntax.Line.{Line}
use Rattle.line.specs.Words.{same_label}
use Rattle.numbering.specs.Numbers.{number_in}
use Rattle.wellformed.specs.Lines.{at}
use Rattle.wellformed.proofs.Lined.{at_read}
use Rattle.program.specs.Asked.{nexts}
use Rattle.program.specs.Refusals.{labels_of, same_line_number, one_leads, Leads}
use Rattle.program.specs.Written.{Lines}

-- what `==` tells of two optional numbers
pub same_line : (a b : Option ℕ) (r : Bool) → r ≡ option_eq eqb a b → r ≡ same_line_number a b
same_line None None r h = h
same_line None (Some n) r h = h
same_line (Some m) None r h = h
same_line (Some m) (Some n) r h = h

module _ (ls : Lines) (to : Option ℕ) where
  abbrev leads : Label → Bool
  leads a = same_line_number (number_in same_label a (labels_of ls)) to

  leads_push : (ks : List Label) (a : Label) → one_leads ls to ks ≡ false → leads a ≡ false → one_leads ls to (ks ++ (a ∷ [])) ≡ false
  leads_push [] a h n = or_from (leads a) false n refl
  leads_push (b ∷ ks) a h n = by (leads b) h (leads_push ks a)
    where
      by : (x : Bool) → (x || one_leads ls to ks) ≡ false → (one_leads ls to ks ≡ false → leads a ≡ false → one_leads ls to (ks ++ (a ∷ [])) ≡ false) → (x || one_leads ls to (ks ++ (a ∷ []))) ≡ false
      by true h f = h
      by false h f = f h n

  leads_at : (ks : List Label) (i : ℕ) (a : Label) → i < length ks → a ≡ get_or ks i a → leads a ≡ true → one_leads ls to ks ≡ true
  leads_at [] i a l e t = absurd (omega arith)
  leads_at (b ∷ ks) zero a l e t = or_left (leads b) (one_leads ls to ks) (ap leads (sym e) ∙ t)
  leads_at (b ∷ ks) (suc i) a l e t = or_right (leads b) (one_leads ls to ks) (leads_at ks i a (omega arith) e t)

  -- the label at place i does not lead there, and so none of the first i + 1 does
  pub none_more : (ks : List Label) (i : ℕ) (a : Label) → i < length ks → a ≡ get_or ks i a → one_leads ls to (take i ks) ≡ false → leads a ≡ false → one_leads ls to (take (i + 1) ks) ≡ false
  none_more ks i a l e h n = ap (one_leads ls to) (take_more ks i a l ∙ ap (λ (b : Label). take i ks ++ (b ∷ [])) (sym e)) ∙ leads_push (take i ks) a h n

  module _ (k : ℕ) (x : Line ℤ) (i : k < length ls) (r : x ≡ get_or ls k x) (ks : List Label) (same : ks ≡ nexts x) where
    tested : at (λ y. one_leads ls to (nexts y)) ls k ≡ one_leads ls to ks
    tested = at_read (λ y. one_leads ls to (nexts y)) ls k x i r ∙ ap (one_leads ls to) (sym same)

    pub line_leads : (j : ℕ) (a : Label) → j < length ks → a ≡ get_or ks j a → leads a ≡ true → Leads ls to (suc k)
    line_leads j a l e t = subst T (sym (tested ∙ leads_at ks j a l e t)) tt

    pub line_passes : (j : ℕ) → length ks ≤ j → one_leads ls to (take j ks) ≡ false → Leads ls to (suc k) → ⊥
    line_passes j l h t = subst T (tested ∙ ap (one_leads ls to) (sym (take_all j ks l)) ∙ h) t
