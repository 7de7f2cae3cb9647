use Rattle.std.proofs.Common.{◌≡◌, ℕ, suc, ◌<◌, false, take}
use Rattle.program.specs.Refusals.{Leads, one_leads}
use Rattle.program.proofs.sealing.labels.Labelled.first_leading.Given as goal

abbrev pub invariant-loop-number : goal.invariant-loop-number
invariant-loop-number l = (k : ℕ) → k < l.number → Leads l.self.lines.now l.to (suc k) → ⊥

abbrev pub invariant-loop-label : goal.invariant-loop-label
invariant-loop-label l = one_leads l.self.lines.now l.to (take l.label-index l.label-items) ≡ false
