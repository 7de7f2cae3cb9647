-- Numbers by first appearance. Assumes nothing.
use Rattle.std.proofs.Common.{◌≡◌, suc, ◌<◌, Bool, true, false, cond, ◌||◌, T, ◌⊎◌, List, [], ◌∷◌, ◌++◌, length, sym, refl, ap, ◌∙◌, subst, inl, inr, arith}
use Rattle.numbering.specs.Numbers.{Laws, unless, append_unless, known, number, gather, firsts, before}
use Rattle.numbering.proofs.Bools.{true_of, false_of, iff, or_i, or_e}

module _ {A : Type 0} {same : A → A → Bool} (laws : Laws same) where
  -- which elements are known

  known_same : (a b : A) (l : List A) → T (same a b) → T (known same b l) → T (known same a l)
  known_same a b [] e t = t
  known_same a b (c ∷ l) e t = or_i (same a c) (known same a l) (elim (or_e (same b c) (known same b l) t) [
    | inl u ↦ inl (laws.transitive a b c e u)
    | inr u ↦ inr (known_same a b l e u)
  ])

  known_left : (a : A) (l m : List A) → T (known same a l) → T (known same a (l ++ m))
  known_left a [] m t = absurd t
  known_left a (b ∷ l) m t = or_i (same a b) (known same a (l ++ m)) (elim (or_e (same a b) (known same a l) t) [ inl u ↦ inl u | inr u ↦ inr (known_left a l m u) ])

  known_right : (a : A) (l m : List A) → T (known same a m) → T (known same a (l ++ m))
  known_right a [] m t = t
  known_right a (b ∷ l) m t = or_i (same a b) (known same a (l ++ m)) (inr (known_right a l m t))

  known_either : (a : A) (l m : List A) → T (known same a (l ++ m)) → T (known same a l) ⊎ T (known same a m)
  known_either a [] m t = inr t
  known_either a (b ∷ l) m t = elim (or_e (same a b) (known same a (l ++ m)) t) [
    | inl u ↦ inl (or_i (same a b) (known same a l) (inl u))
    | inr u ↦ elim (known_either a l m u) [ inl v ↦ inl (or_i (same a b) (known same a l) (inr v)) | inr v ↦ inr v ]
  ]

  known_more : (a b : A) (l : List A) (x : Bool) → T (known same a l) → T (known same a (append_unless x b l))
  known_more a b l true t = t
  known_more a b l false t = known_left a l (b ∷ []) t

  known_last : (a b : A) (l : List A) → T (same a b) → (x : Bool) → known same b l ≡ x → T (known same a (append_unless x b l))
  known_last a b l e true q = known_same a b l e (subst T (sym q) tt)
  known_last a b l e false q = known_right a l (b ∷ []) (or_i (same a b) false (inl e))

  known_kept : (a : A) (xs l : List A) → T (known same a l) → T (known same a (gather same l xs))
  known_kept a [] l t = t
  known_kept a (b ∷ xs) l t = known_kept a xs (append_unless (known same b l) b l) (known_more a b l (known same b l) t)

  known_gather : (a : A) (xs l : List A) → T (known same a xs) → T (known same a (gather same l xs))
  known_gather a [] l t = absurd t
  known_gather a (b ∷ xs) l t = elim (or_e (same a b) (known same a xs) t) [
    | inl u ↦ known_kept a xs (append_unless (known same b l) b l) (known_last a b l u (known same b l) refl)
    | inr u ↦ known_gather a xs (append_unless (known same b l) b l) u
  ]

  known_was : (a b : A) (l : List A) (x : Bool) → T (known same a (append_unless x b l)) → T (known same a l) ⊎ T (same a b)
  known_was a b l true t = inl t
  known_was a b l false t = elim (known_either a l (b ∷ []) t) [
    | inl u ↦ inl u
    | inr u ↦ elim (or_e (same a b) false u) [ inl v ↦ inr v | inr v ↦ absurd v ]
  ]

  gather_known : (a : A) (xs l : List A) → T (known same a (gather same l xs)) → T (known same a l) ⊎ T (known same a xs)
  gather_known a [] l t = inl t
  gather_known a (b ∷ xs) l t = elim (gather_known a xs (append_unless (known same b l) b l) t) [
    | inl u ↦ elim (known_was a b l (known same b l) u) [ inl v ↦ inl v | inr v ↦ inr (or_i (same a b) (known same a xs) (inl v)) ]
    | inr u ↦ inr (or_i (same a b) (known same a xs) (inr u))
  ]

  -- an element is known among the first appearances if it is known at all
  pub known_firsts : (a : A) (xs : List A) → known same a (firsts same xs) ≡ known same a xs
  known_firsts a xs = iff (known same a (firsts same xs)) (known same a xs) (λ t. elim (gather_known a xs [] t) [ inl u ↦ absurd u | inr u ↦ u ]) (known_gather a xs [])

  -- numbers

  pub number_in : (a : A) (l : List A) → T (known same a l) → number same a l < length l
  number_in a [] t = absurd t
  number_in a (b ∷ l) t = by (same a b) t (number_in a l)
    where
      by : (x : Bool) → T (x || known same a l) → (T (known same a l) → number same a l < length l) → unless x (number same a l) < suc (length l)
      by true t f = omega arith
      by false t f = let i = f t in omega arith

  number_left : (a : A) (l m : List A) → T (known same a l) → number same a (l ++ m) ≡ number same a l
  number_left a [] m t = absurd t
  number_left a (b ∷ l) m t = by (same a b) t (number_left a l m)
    where
      by : (x : Bool) → T (x || known same a l) → (T (known same a l) → number same a (l ++ m) ≡ number same a l) → unless x (number same a (l ++ m)) ≡ unless x (number same a l)
      by true t f = refl
      by false t f = ap suc (f t)

  pub number_last : (a : A) (l : List A) → (¬ T (known same a l)) → number same a (l ++ (a ∷ [])) ≡ length l
  number_last a [] f = ap (λ (x : Bool). unless x 0) (true_of (same a a) (laws.reflexive a))
  number_last a (b ∷ l) f = by (same a b) f (number_last a l)
    where
      by : (x : Bool) → (¬ T (x || known same a l)) → ((¬ T (known same a l)) → number same a (l ++ (a ∷ [])) ≡ length l) → unless x (number same a (l ++ (a ∷ []))) ≡ suc (length l)
      by true f g = absurd (f tt)
      by false f g = ap suc (g f)

  number_more : (a b : A) (l : List A) (x : Bool) → T (known same a l) → number same a (append_unless x b l) ≡ number same a l
  number_more a b l true t = refl
  number_more a b l false t = number_left a l (b ∷ []) t

  number_kept : (a : A) (xs l : List A) → T (known same a l) → number same a (gather same l xs) ≡ number same a l
  number_kept a [] l t = refl
  number_kept a (b ∷ xs) l t = number_kept a xs (append_unless (known same b l) b l) (known_more a b l (known same b l) t) ∙ number_more a b l (known same b l) t

  pub gather_append : (xs ys l : List A) → gather same l (xs ++ ys) ≡ gather same (gather same l xs) ys
  gather_append [] ys l = refl
  gather_append (a ∷ xs) ys l = gather_append xs ys (append_unless (known same a l) a l)

  -- same elements have the same number, and only they

  pub same_number : (l : List A) (a b : A) → T (same a b) → number same a l ≡ number same b l
  same_number [] a b e = refl
  same_number (c ∷ l) a b e =
      ap (λ (x : Bool). unless x (number same a l)) (iff (same a c) (same b c) (laws.transitive b a c (laws.symmetric a b e)) (laws.transitive a b c e))
      ∙ ap (unless (same b c)) (same_number l a b e)

  pub only_same : (l : List A) (a b : A) → number same a l ≡ number same b l → number same a l < length l → T (same a b)
  only_same [] a b e i = absurd (omega arith)
  only_same (c ∷ l) a b e i = by (same a c) refl (same b c) refl e i (only_same l a b)
    where
      by : (x : Bool) → same a c ≡ x → (y : Bool) → same b c ≡ y → unless x (number same a l) ≡ unless y (number same b l) → unless x (number same a l) < suc (length l)
          → (number same a l ≡ number same b l → number same a l < length l → T (same a b)) → T (same a b)
      by true p true q e i f = laws.transitive a c b (subst T (sym p) tt) (laws.symmetric b c (subst T (sym q) tt))
      by true p false q e i f = absurd (omega arith)
      by false p true q e i f = absurd (omega arith)
      by false p false q e i f = f (omega arith) (omega arith)

  -- what stands before the first appearance

  all_before : (a : A) (xs : List A) → (¬ T (known same a xs)) → before same a xs ≡ xs
  all_before a [] f = refl
  all_before a (b ∷ xs) f = by (same a b) f (all_before a xs)
    where
      by : (x : Bool) → (¬ T (x || known same a xs)) → ((¬ T (known same a xs)) → before same a xs ≡ xs) → cond x [] (b ∷ before same a xs) ≡ b ∷ xs
      by true f g = absurd (f tt)
      by false f g = ap (λ (r : List A). b ∷ r) (g f)

  pub not_before : (a : A) (xs : List A) → ¬ T (known same a (before same a xs))
  not_before a [] t = t
  not_before a (b ∷ xs) t = by (same a b) refl (not_before a xs) t
    where
      by : (x : Bool) → same a b ≡ x → (¬ T (known same a (before same a xs))) → ¬ T (known same a (cond x [] (b ∷ before same a xs)))
      by true q f t = t
      by false q f t = elim (or_e (same a b) (known same a (before same a xs)) t) [ inl u ↦ subst T q u | inr u ↦ f u ]

  -- the first element that is the same as a, and what follows it
  pub record Appears (a : A) (xs : List A) : Type 0 where
    pub first : A
    pub rest : List A
    pub alike : T (same a first)
    pub parts : xs ≡ before same a xs ++ (first ∷ rest)

  pub appears : (a : A) (xs : List A) → T (known same a xs) → Appears a xs
  appears a [] t = absurd t
  appears a (b ∷ xs) t = by (same a b) refl (or_e (same a b) (known same a xs) t) (appears a xs)
    where
      by : (x : Bool) → same a b ≡ x → T (same a b) ⊎ T (known same a xs) → (T (known same a xs) → Appears a xs) → Appears a (b ∷ xs)
      by true q t f = record { first = b; rest = xs; alike = subst T (sym q) tt; parts = ap (λ (y : Bool). cond y [] (b ∷ before same a xs) ++ (b ∷ xs)) (sym q) }
      by false q (inl t) f = absurd (subst T q t)
      by false q (inr t) f =
          let r = f t in
          record {
            first = r.first;
            rest = r.rest;
            alike = r.alike;
            parts = ap (λ (l : List A). b ∷ l) r.parts ∙ ap (λ (y : Bool). cond y [] (b ∷ before same a xs) ++ (r.first ∷ r.rest)) (sym q);
          }

  -- an element that is new after front has the number of different elements there

  number_new : (front rest : List A) (b : A) → (¬ T (known same b front)) → number same b (firsts same (front ++ (b ∷ rest))) ≡ length (firsts same front)
  number_new front rest b f =
      let g = firsts same front in
      let non : ¬ T (known same b g) = λ t. f (subst T (known_firsts b front) t) in
      ap (number same b) (gather_append front (b ∷ rest) [])
      ∙ number_kept b rest (append_unless (known same b g) b g) (known_last b b g (laws.reflexive b) (known same b g) refl)
      ∙ ap (λ (x : Bool). number same b (append_unless x b g)) (false_of (known same b g) non)
      ∙ number_last b g non

  -- a number is how many different elements appear before
  pub number_firsts : (a : A) (xs : List A) → T (known same a xs) → number same a (firsts same xs) ≡ length (firsts same (before same a xs))
  number_firsts a xs t =
      let r = appears a xs t in
      same_number (firsts same xs) a r.first r.alike
      ∙ ap (λ (l : List A). number same r.first (firsts same l)) r.parts
      ∙ number_new (before same a xs) r.rest r.first (λ u. not_before a xs (known_same a r.first (before same a xs) r.alike u))

  pub new_number : (a : A) (xs : List A) → (¬ T (known same a xs)) → length (firsts same xs) ≡ length (firsts same (before same a xs))
  new_number a xs f = ap (λ (l : List A). length (firsts same l)) (sym (all_before a xs f))

  -- one element more
  pub firsts_more : (a : A) (xs : List A) → firsts same (xs ++ (a ∷ [])) ≡ append_unless (known same a (firsts same xs)) a (firsts same xs)
  firsts_more a xs = gather_append xs (a ∷ []) []
