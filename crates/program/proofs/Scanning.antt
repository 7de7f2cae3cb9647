-- The lowest line that a scan of the lines finds. Assumes nothing.
use Rattle.std.proofs.Common.{◌≡◌, ℕ, suc, ◌+◌, ◌<◌, ◌≤◌, [], ◌∷◌, ◌++◌, length, get_or, take, ℤ, None, sym, ap, ◌∙◌, arith}
use Rattle.std.proofs.lemmas.List.{take_more}
use Rattle.line.specs.declared.syntax.Line.{Line}
use Rattle.program.specs.Refusals.{LowestLine}
use Rattle.program.specs.Written.{Lines}

-- F holds of none of the first n lines, and beyond the last line of none
pub none_left : (F : ℕ → Type 0) (n c : ℕ) → c ≤ n → ((k : ℕ) → F (suc k) → k < c) → ((k : ℕ) → k < n → F (suc k) → ⊥) → LowestLine F None
none_left F n c l within passed k t = passed k (let i = within k t in omega arith) t

-- one line more
pub take_step : (ls : Lines) (k : ℕ) (x : Line ℤ) → k < length ls → x ≡ get_or ls k x → take (k + 1) ls ≡ take k ls ++ (x ∷ [])
take_step ls k x i e = take_more ls k x i ∙ ap (λ (y : Line ℤ). take k ls ++ (y ∷ [])) (sym e)
