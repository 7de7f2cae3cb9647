-- What a line of input asks for. Assumes nothing.
use Rattle.std.specs.Prelude.{◌≡◌, ℕ, ◌^◌, ◌<◌, Bool, true, false, cond, List, [], ◌∷◌, length, drop, Some, None, Ok, Err, codes, Option, Result, ◌==◌, slice_index}
use Rattle.std.specs.List.{before_first, after_first, list_all}
use Rattle.std.specs.Str.Parse.{IsNumeral, digits_value}
use Rattle.std.specs.Char.{is_ascii_whitespace}
use Rattle.std.specs.Str.{bytes_eq}
use Rattle.draft.specs.declared.edit.Edit.TheVariants as edit
use Rattle.console.specs.declared.command.Command.{Command}
use Rattle.console.specs.declared.command.Command.TheVariants as asks
use Rattle.console.specs.declared.command.Verb.{Verb}
use Rattle.console.specs.declared.command.Verb.TheVariants.{Add, Mend, Strike, List as Listing, Help}
use Rattle.console.specs.declared.command.Reason.{Reason}
use Rattle.console.specs.declared.command.Reason.TheVariants as why

abbrev pub Text : Type 0
Text = List ℕ

abbrev pub Answer : Type 0
Answer = Result (Option Command) Reason

-- the bytes before the first space, and those after it
abbrev pub word : Text → Text
word bs = before_first (λ b. b == 32) bs

abbrev pub after : Text → Text
after bs = after_first (λ b. b == 32) bs

abbrev pub only_blank : Text → Bool
only_blank bs = list_all (λ b. b == 32) bs

-- the command that begins with that word
abbrev pub verb_of : Text → Option Verb
verb_of w =
    cond (bytes_eq w (codes "add")) (Some Add)
    (cond (bytes_eq w (codes "mend")) (Some Mend)
    (cond (bytes_eq w (codes "strike")) (Some Strike)
    (cond (bytes_eq w (codes "list")) (Some Listing)
    (cond (bytes_eq w (codes "help")) (Some Help) None))))

-- no word, or one that begins a remark
abbrev pub is_remark : Text → Bool
is_remark [] = true
is_remark (b ∷ bs) = b == 35

-- the number that one decimal digit or more spell, if it is below 2^64
abbrev pub NumberOf : Text → Option ℕ → Type 0
NumberOf ds (Some n) = IsNumeral 10 ds × (n ≡ digits_value 10 ds)
NumberOf ds None = IsNumeral 10 ds × (digits_value 10 ds < 2 ^ 64) → ⊥

-- a line number, a space and a text
abbrev pub Mends : Text → Result Command Reason → Type 0
Mends s (Ok (asks.Edit (edit.Mend n t))) = NumberOf (word s) (Some n) × (t.now ≡ after s)
Mends s (Err why.NoNumber) = word s ≡ []
Mends s (Err (why.BadNumber t)) = (0 < length (word s)) × NumberOf (word s) None × (t.now ≡ word s)
Mends s _ = ⊥

-- the command c of the name w, if nothing but spaces follows
abbrev pub Alone : Command → Text → Text → Result Command Reason → Type 0
Alone c w s (Ok d) = (d ≡ c) × (only_blank s ≡ true)
Alone c w s (Err (why.NothingMore t)) = (t.now ≡ w) × (only_blank s ≡ false)
Alone c w s _ = ⊥

-- by the name of the command; w is its spelling, and s what follows
abbrev pub Named : Option Verb → Text → Text → Result Command Reason → Type 0
Named (Some Add) w s (Ok (asks.Edit (edit.Add t))) = t.now ≡ s
Named (Some Add) w s _ = ⊥
Named (Some Mend) w s r = Mends s r
Named (Some Strike) w s r = Alone (asks.Edit edit.Strike) w s r
Named (Some Listing) w s r = Alone asks.List w s r
Named (Some Help) w s r = Alone asks.Help w s r
Named None w s (Err (why.NoCommand t)) = t.now ≡ w
Named None w s _ = ⊥

-- what is no remark asks for something
abbrev pub Says : Bool → Text → Text → Answer → Type 0
Says true w s r = r ≡ Ok None
Says false w s (Ok (Some c)) = Named (verb_of w) w s (Ok c)
Says false w s (Ok None) = ⊥
Says false w s (Err y) = Named (verb_of w) w s (Err y)

-- n bytes of white space lead, and no more
abbrev pub Leading : ℕ → Text → Type 0
Leading n bs = ((i : ℕ) → i < n → is_ascii_whitespace (slice_index bs i) ≡ true) × (n < length bs → is_ascii_whitespace (slice_index bs n) ≡ false)

-- after white space: nothing, a remark, or a command with what follows its name and one space
pub record Asks (bs : Text) (r : Answer) : Type 0 where
  pub size : ℕ
  pub leading : Leading size bs
  pub says : Says (is_remark (word (drop size bs))) (word (drop size bs)) (after (drop size bs)) r
