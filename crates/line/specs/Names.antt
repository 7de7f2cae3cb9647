-- Names: 1 to 8 letters, kept in eight bytes. Assumes nothing.
use Rattle.std.specs.Prelude.{◌≡◌, ℕ, Bool, true, ◌&&◌, List, [], ◌∷◌, ◌++◌, length, take, drop, ◌==◌, nat_le, refl}
use Rattle.std.proofs.Common.{sym, subst}
use Rattle.std.specs.Char.{is_ascii_lowercase}
use Rattle.std.specs.List.{list_all}
use Rattle.std.specs.Str.{bytes_eq}
use Rattle.std.proofs.lemmas.Slice.Eq.{bytes_eq-Decides}
use Rattle.std.proofs.lemmas.List.{take_at}
use Rattle.std.proofs.lemmas.Bool.{and_from, eq-eqb}

abbrev pub only_letters : List ℕ → Bool
only_letters t = list_all is_ascii_lowercase t

-- 1 to 8 letters
abbrev pub is_word : List ℕ → Bool
is_word t = nat_le 1 (length t) && (nat_le (length t) 8 && only_letters t)

abbrev pub zeros : List ℕ
zeros = 0 ∷ 0 ∷ 0 ∷ 0 ∷ 0 ∷ 0 ∷ 0 ∷ 0 ∷ []

-- t with zeros after it, to eight bytes
abbrev pub padded : List ℕ → List ℕ
padded t = t ++ drop (length t) zeros

-- the first n bytes are 1 to 8 letters, and the others are zeros
abbrev pub is_name : List ℕ → ℕ → Bool
is_name bytes n = length (take n bytes) == n && (is_word (take n bytes) && bytes_eq bytes (padded (take n bytes)))

-- a name is kept so
pub kept : (t : List ℕ) → is_word t ≡ true → is_name (padded t) (length t) ≡ true
kept t e =
    subst (λ (u : List ℕ). (length u == length t && (is_word u && bytes_eq (padded t) (padded u))) ≡ true)
    (sym (take_at t (drop (length t) zeros) (length t) refl))
    (and_from (length t == length t) (is_word t && bytes_eq (padded t) (padded t)) (eq-eqb (length t) (length t) refl)
    (and_from (is_word t) (bytes_eq (padded t) (padded t)) e ((bytes_eq-Decides (padded t) (padded t)).1 refl)))
