-- Numbering by first appearance, over any kind of element with a test of sameness. Assumes nothing.
use Rattle.std.specs.Prelude.{ℕ, suc, Bool, true, false, cond, ◌||◌, T, List, [], ◌∷◌, ◌++◌, length, Some, None, Ok, Err, Option, Result, nat_lt}
use Rattle.numbering.specs.declared.list.NoRoom.{NoRoom}

-- the laws of a test of sameness
pub record Laws {A : Type 0} (same : A → A → Bool) : Type 0 where
  pub reflexive : (a : A) → T (same a a)
  pub symmetric : (a b : A) → T (same a b) → T (same b a)
  pub transitive : (a b c : A) → T (same a b) → T (same b c) → T (same a c)

-- what a numbering list holds: its elements in the order of their numbers, and how many there can be
pub record Numbered (A : Type 0) : Type 0 where
  pub items : List A
  pub room : ℕ

-- 0 if b, else one more
abbrev pub unless : Bool → ℕ → ℕ
unless true n = 0
unless false n = suc n

-- x goes last, unless b
abbrev pub append_unless : {A : Type 0} → Bool → A → List A → List A
append_unless true x l = l
append_unless false x l = l ++ (x ∷ [])

-- what is answered to an element, and the list after
pub record Entered (A : Type 0) : Type 0 where
  pub answer : Result ℕ NoRoom
  pub items : List A

module _ {A : Type 0} (same : A → A → Bool) where
  -- an element that is the same as a stands in the list
  abbrev pub known : A → List A → Bool
  known a [] = false
  known a (b ∷ l) = same a b || known a l

  -- how many elements stand before the first that is the same as a
  abbrev pub number : A → List A → ℕ
  number a [] = 0
  number a (b ∷ l) = unless (same a b) (number a l)

  abbrev pub number_in : A → List A → Option ℕ
  number_in a l = cond (known a l) (Some (number a l)) None

  -- a known element has its number; a new one goes last, if there is room
  abbrev pub entered : ℕ → A → List A → Entered A
  entered room a l =
      cond (known a l) (record { answer = Ok (number a l); items = l })
      (cond (nat_lt (length l) room) (record { answer = Ok (length l); items = l ++ (a ∷ []) })
      (record { answer = Err (record {}); items = l }))

  -- the list l, with each new element of xs put last
  abbrev pub gather : List A → List A → List A
  gather l [] = l
  gather l (a ∷ xs) = gather (append_unless (known a l) a l) xs

  -- the different elements of a list, in the order in which they first appear
  abbrev pub firsts : List A → List A
  firsts xs = gather [] xs

  -- the elements of a list before the first that is the same as a
  abbrev pub before : A → List A → List A
  before a [] = []
  before a (b ∷ l) = cond (same a b) [] (b ∷ before a l)
