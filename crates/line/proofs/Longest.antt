-- The tokens are the longest runs without spaces. Assumes nothing.
use Rattle.std.proofs.Common.{◌≡◌, ℕ, zero, suc, ◌+◌, Bool, true, false, cond, List, [], ◌∷◌, ◌++◌, replicate, sym, refl, ap, ◌∙◌, subst, ⊎_elim, arith}
use Rattle.std.proofs.lemmas.Bool.{cases_Bool, eqb-true, false≢true}
use Rattle.line.specs.Pieces.{is_blank, Piece, run_goes_on, grown, pieces, Stops, Runs}

-- one space more in front
spaced_out : (c b : ℕ) (bs : List ℕ) (ps : List Piece) → is_blank b ≡ true → Runs (c + 1) bs ps → Runs c (b ∷ bs) ps
spaced_out c b bs [] e r = ap (λ (k : ℕ). k ∷ bs) (eqb-true b 32 e) ∙ ap (λ (l : List ℕ). 32 ∷ l) r
spaced_out c b bs (p ∷ ps) e r = (
  suc r.0,
  r.1,
  record {
    whole = ap (λ (k : ℕ). k ∷ bs) (eqb-true b 32 e) ∙ ap (λ (l : List ℕ). 32 ∷ l) r.2.whole;
    place = omega (arith, r.2.place);
    some = r.2.some;
    unspaced = r.2.unspaced;
    longest = r.2.longest;
  },
  r.3,
)

-- a list that begins with no space begins with its first token
no_space : (n d : ℕ) (bs rest : List ℕ) → is_blank d ≡ false → d ∷ bs ≡ replicate n 32 ++ rest → n ≡ 0
no_space zero d bs rest e q = refl
no_space (suc n) d bs rest e q = let same : d ≡ 32 = cc in absurd (false≢true (sym e ∙ ap is_blank same))

-- a byte more in front of the run that goes on
module _ (c b d : ℕ) (bs : List ℕ) (dark : is_blank b ≡ false) (next : is_blank d ≡ false) where
  longer : (ps : List Piece) → Runs (c + 1) (d ∷ bs) ps → Runs c (b ∷ d ∷ bs) (grown b c true ps)
  longer [] r = let same : d ≡ 32 = cc in absurd (false≢true (sym next ∙ ap is_blank same))
  longer (p ∷ ps) r =
      let first : r.0 ≡ 0 = no_space r.0 d bs (p.text ++ r.1) next r.2.whole in (
        0,
        r.1,
        record {
          whole = ap (λ (l : List ℕ). b ∷ l) (r.2.whole ∙ ap (λ (n : ℕ). replicate n 32 ++ (p.text ++ r.1)) first);
          place = omega arith;
          some = omega arith;
          unspaced = (dark, r.2.unspaced);
          longest = r.2.longest;
        },
        subst (λ (k : ℕ). Runs k r.1 ps) (omega (arith, r.2.place, first)) r.3,
      )

-- a run of one byte
alone : (c b : ℕ) (bs : List ℕ) (ps : List Piece) → is_blank b ≡ false → Stops bs → Runs (c + 1) bs ps → Runs c (b ∷ bs) (grown b c false ps)
alone c b bs ps dark stops r = (0, bs, record { whole = refl; place = omega arith; some = omega arith; unspaced = (dark, tt); longest = stops }, r)

in_front : (c b : ℕ) (bs : List ℕ) → is_blank b ≡ false → Runs (c + 1) bs (pieces (c + 1) bs) → Runs c (b ∷ bs) (grown b c (run_goes_on bs) (pieces (c + 1) bs))
in_front c b [] dark r = alone c b [] [] dark tt r
in_front c b (d ∷ bs) dark r =
    ⊎_elim
    (λ (e : is_blank d ≡ true). subst (λ (t : Bool). Runs c (b ∷ d ∷ bs) (grown b c (cond t false true) (pieces (c + 1) (d ∷ bs)))) (sym e) (alone c b (d ∷ bs) (pieces (c + 1) (d ∷ bs)) dark e r))
    (λ (e : is_blank d ≡ false). subst (λ (t : Bool). Runs c (b ∷ d ∷ bs) (grown b c (cond t false true) (pieces (c + 1) (d ∷ bs)))) (sym e) (longer c b d bs dark e (pieces (c + 1) (d ∷ bs)) r))
    (cases_Bool (is_blank d))

pub longest_runs : (c : ℕ) (bs : List ℕ) → Runs c bs (pieces c bs)
longest_runs c [] = refl
longest_runs c (b ∷ bs) =
    ⊎_elim
    (λ (e : is_blank b ≡ true). subst (λ (t : Bool). Runs c (b ∷ bs) (cond t (pieces (c + 1) bs) (grown b c (run_goes_on bs) (pieces (c + 1) bs)))) (sym e) (spaced_out c b bs (pieces (c + 1) bs) e (longest_runs (c + 1) bs)))
    (λ (e : is_blank b ≡ false). subst (λ (t : Bool). Runs c (b ∷ bs) (cond t (pieces (c + 1) bs) (grown b c (run_goes_on bs) (pieces (c + 1) bs)))) (sym e) (in_front c b bs e (longest_runs (c + 1) bs)))
    (cases_Bool (is_blank b))
