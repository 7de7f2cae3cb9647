-- What is answered to one element. Assumes nothing.
use Rattle.std.proofs.Common.{◌≡◌, ℕ, ◌<◌, ◌≤◌, Bool, true, false, cond, T, ltb, List, [], ◌∷◌, ◌++◌, length, Some, None, Ok, Err, Result, sym, refl, ap, ◌∙◌, subst, arith}
use Rattle.std.proofs.lemmas.Bool.{ltb-true, ltb-false}
use Rattle.numbering.specs.declared.list.NoRoom.{NoRoom}
use Rattle.numbering.specs.Lists.{Answered, ByAppearance}
use Rattle.numbering.specs.Numbers.{Laws, append_unless, known, number, number_in, entered, firsts}
use Rattle.numbering.proofs.Appearance.{known_firsts, number_firsts, new_number, firsts_more}

module _ {A : Type 0} {same : A → A → Bool} (laws : Laws same) (room : ℕ) (a : A) (l : List A) where
  -- the element is known, with its number
  pub is_known : (n : ℕ) → Some n ≡ number_in same a l → (known same a l ≡ true) × (n ≡ number same a l)
  is_known n e = by (known same a l) refl e
    where
      by : (b : Bool) → known same a l ≡ b → Some n ≡ cond b (Some (number same a l)) None → (known same a l ≡ true) × (n ≡ number same a l)
      by true q e = (q, cc)
      by false q e = absurd (let z : ◌≡◌ {A = ℕ} 0 1 = cc in omega arith)

  pub is_new : None ≡ number_in same a l → known same a l ≡ false
  is_new e = by (known same a l) refl e
    where
      by : (b : Bool) → known same a l ≡ b → None ≡ cond b (Some (number same a l)) None → known same a l ≡ false
      by true q e = absurd (let z : ◌≡◌ {A = ℕ} 0 1 = cc in omega arith)
      by false q e = q

  module _ (n : ℕ) (e : Some n ≡ number_in same a l) where
    pub known_appearance : ByAppearance same room a l (Ok n) l
    known_appearance xs f =
        let k = is_known n e in
        let known_in : T (known same a xs) = subst T (sym k.0 ∙ ap (known same a) f ∙ known_firsts laws a xs) tt in (
          f ∙ sym (firsts_more laws a xs ∙ ap (λ b. append_unless b a (firsts same xs)) (sym (ap (known same a) f) ∙ k.0)),
          k.1 ∙ ap (number same a) f ∙ number_firsts laws a xs known_in,
        )

  module _ (e : None ≡ number_in same a l) where
    pub new_appearance : (n : ℕ) (after : List A) → n ≡ length l → after ≡ l ++ (a ∷ []) → ByAppearance same room a l (Ok n) after
    new_appearance n after s f xs g =
        let q : known same a (firsts same xs) ≡ false = sym (ap (known same a) g) ∙ is_new e in (
          f ∙ ap (λ (k : List A). k ++ (a ∷ [])) g ∙ sym (firsts_more laws a xs ∙ ap (λ b. append_unless b a (firsts same xs)) q),
          s ∙ ap length g ∙ new_number laws a xs (λ t. subst T (sym (known_firsts laws a xs) ∙ q) t),
        )

-- the three ways that an element can be answered
pub data Way {A : Type 0} (same : A → A → Bool) (room : ℕ) (a : A) (l : List A) (r : Result ℕ NoRoom) (after : List A) : Type 0 where
  known_way : known same a l ≡ true → r ≡ Ok (number same a l) → after ≡ l → Way same room a l r after
  new_way : known same a l ≡ false → length l < room → r ≡ Ok (length l) → after ≡ l ++ (a ∷ []) → Way same room a l r after
  full_way : known same a l ≡ false → room ≤ length l → r ≡ Err (record {}) → after ≡ l → Way same room a l r after

pub way : {A : Type 0} (same : A → A → Bool) (room : ℕ) (a : A) (l : List A) (r : Result ℕ NoRoom) (after : List A) → Answered (entered same room a l) r after → Way same room a l r after
way same room a l r after h = by (known same a l) refl (ltb (length l) room) refl h
  where
    by : (k : Bool) → known same a l ≡ k → (b : Bool) → ltb (length l) room ≡ b
        → Answered (cond k (record { answer = Ok (number same a l); items = l }) (cond b (record { answer = Ok (length l); items = l ++ (a ∷ []) }) (record { answer = Err (record {}); items = l }))) r after
        → Way same room a l r after
    by true p b q h = known_way p h.0 h.1
    by false p true q h = new_way p (ltb-true (length l) room q) h.0 h.1
    by false p false q h = full_way p (ltb-false (length l) room q) h.0 h.1
