-- How the tokens of a list follow from its leading spaces and its first run. Assumes nothing.
use Rattle.std.proofs.Common.{◌≡◌, ℕ, suc, ◌+◌, ◌-◌, ◌<◌, Bool, true, false, List, [], ◌∷◌, length, take, drop, sym, refl, ap, ◌∙◌, ⊎_elim, le_refl, arith, length-take}
use Rattle.std.proofs.lemmas.Slice.{between_to_end}
use Rattle.std.proofs.lemmas.Bool.{cases_Bool}
use Rattle.line.specs.Pieces.{is_blank, blanks, inked, Piece, run_goes_on, grown, pieces}

one : (n : ℕ) → 1 + n ≡ suc n
one n = omega arith

-- leading spaces make no token
skip : (c : ℕ) (bs : List ℕ) → pieces c bs ≡ pieces (c + blanks bs) (drop (blanks bs) bs)
skip c [] = refl
skip c (b ∷ bs) =
    ⊎_elim
    (λ e. rw e (rw (one (blanks bs)) (skip (c + 1) bs ∙ ap (λ n. pieces n (drop (blanks bs) bs)) (omega arith))))
    (λ e. let z : c + 0 ≡ c = omega arith in rw e (rw z (rw e)))
    (cases_Bool (is_blank b))

skipped : (bs : List ℕ) → blanks (drop (blanks bs) bs) ≡ 0
skipped [] = refl
skipped (b ∷ bs) = ⊎_elim (λ e. rw e (rw (one (blanks bs)) (skipped bs))) (λ e. rw e (rw e)) (cases_Bool (is_blank b))

onto : (c b : ℕ) (r : Bool) (ps : List Piece) (p : Piece) (qs : List Piece) → r ≡ true → ps ≡ p ∷ qs → grown b c r ps ≡ record { text = b ∷ p.text; column = c } ∷ qs
onto c b r ps p qs e h = rw (e, h)

-- the first run is the first token
first : (c b : ℕ) (bs : List ℕ) → is_blank b ≡ false → pieces c (b ∷ bs) ≡ record { text = take (inked (b ∷ bs)) (b ∷ bs); column = c } ∷ pieces (c + inked (b ∷ bs)) (drop (inked (b ∷ bs)) (b ∷ bs))
first c b [] e = rw e
first c b (d ∷ bs) e =
    ⊎_elim
    (λ t. rw e (rw t (rw t)))
    (λ t. rw e (rw (one (inked (d ∷ bs))) (onto c b (run_goes_on (d ∷ bs)) (pieces (c + 1) (d ∷ bs)) _ _ (rw t) (first (c + 1) d bs t)
    ∙ ap (λ n. record { text = b ∷ take (inked (d ∷ bs)) (d ∷ bs); column = c } ∷ pieces n (drop (inked (d ∷ bs)) (d ∷ bs))) (omega arith))))
    (cases_Bool (is_blank d))

unblank : (b : ℕ) (bs : List ℕ) → blanks (b ∷ bs) ≡ 0 → is_blank b ≡ false
unblank b bs = ⊎_elim (λ e. rw e (λ h. absurd (omega arith))) (λ e h. e) (cases_Bool (is_blank b))

pub begun : (c : ℕ) (bs : List ℕ) → blanks bs ≡ 0 → 0 < length bs → pieces c bs ≡ record { text = take (inked bs) bs; column = c } ∷ pieces (c + inked bs) (drop (inked bs) bs)
begun c [] e h = absurd (omega arith)
begun c (b ∷ bs) e h = first c b bs (unblank b bs e)

-- the first run is empty only where nothing is left
ink_none : (bs : List ℕ) → blanks bs ≡ 0 → inked bs ≡ 0 → bs ≡ []
ink_none [] e h = refl
ink_none (b ∷ bs) e h = let none = rw (unblank b bs e) at h in absurd (omega arith)

-- what is left of a list after its first m elements
pub left : (bs : List ℕ) (m : ℕ) → m ≡ blanks bs → take (length bs - m) (drop m bs) ≡ drop (blanks bs) bs
left bs m e = between_to_end bs m (length bs) (le_refl (length bs)) ∙ ap (λ k. drop k bs) e

-- the rest after m spaces from column c on, cut into its first run and what is after it
module _ (c : ℕ) (bs rest text after : List ℕ) (m n : ℕ) (em : m ≡ blanks bs) (er : rest ≡ drop (blanks bs) bs) (en : n ≡ inked rest) (et : text ≡ take n rest) (el : length text ≡ n) (ea : after ≡ drop n rest) where
  unspaced : blanks rest ≡ 0
  unspaced = ap blanks er ∙ skipped bs

  whole : pieces c bs ≡ pieces (c + m) rest
  whole = skip c bs ∙ ap (pieces (c + blanks bs)) (sym er) ∙ ap (λ k. pieces (c + k) rest) (sym em)

  pub next_some : (length text ≡ 0 → ⊥) → pieces c bs ≡ record { text = text; column = c + m } ∷ pieces (c + m + length text) after
  next_some h =
      let some : 0 < length rest = omega (arith, ap length et, length-take n rest) in
      let split = whole ∙ begun (c + m) rest unspaced some in
      cc

  pub next_none : length text ≡ 0 → (pieces c bs ≡ []) × (pieces (c + m + length text) after ≡ [])
  next_none h =
      let empty : rest ≡ [] = ink_none rest unspaced (sym en ∙ sym el ∙ h) in
      (whole ∙ ap (pieces (c + m)) empty, ap (pieces (c + m + length text)) (ea ∙ ap (λ k. drop k rest) (sym el ∙ h) ∙ empty))
