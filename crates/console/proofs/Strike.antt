-- The longest word that a command begins with. Assumes nothing.
use Rattle.std.proofs.Common.{◌≡◌, length, get_or, Some, ap, codes, arith}
use Rattle.std.proofs.lemmas.Grind.{common_steps}
use Rattle.console.specs.declared.command.Verb.TheVariants.{Strike}
use Rattle.console.specs.Commands.{Text, verb_of}

spelt : (w : Text) → length w ≡ 6 → get_or w 0 0 ≡ 115 → get_or w 1 0 ≡ 116 → get_or w 2 0 ≡ 114 → get_or w 3 0 ≡ 105 → get_or w 4 0 ≡ 107 → get_or w 5 0 ≡ 101 → w ≡ codes "strike"
spelt w n a b c d e f = grind (arith, common_steps)

-- six bytes, and each of them that of the word
pub strikes : (w : Text) → length w ≡ 6 → get_or w 0 0 ≡ 115 → get_or w 1 0 ≡ 116 → get_or w 2 0 ≡ 114 → get_or w 3 0 ≡ 105 → get_or w 4 0 ≡ 107 → get_or w 5 0 ≡ 101 → verb_of w ≡ Some Strike
strikes w n a b c d e f = ap verb_of (spelt w n a b c d e f)
