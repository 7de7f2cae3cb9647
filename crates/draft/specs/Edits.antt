-- Lists of edits, fed to a plain list. Assumes nothing.
use Rattle.std.specs.Prelude.{◌≡◌, ℕ, List, [], ◌∷◌, Result}
use Rattle.fault.specs.declared.Fault.{Fault}
use Rattle.draft.specs.declared.edit.Edit.{Edit}
use Rattle.draft.specs.declared.edit.Edit.TheVariants.{Add, Mend, Strike}
use Rattle.draft.specs.Plain.{Lines, Outcome, added, mended, struck}

abbrev pub edited : Edit → Lines → Outcome
edited (Add t) ls = added t.now ls
edited (Mend n t) ls = mended n t.now ls
edited Strike ls = struck ls

-- the lines after all the edits
abbrev pub fed : List Edit → Lines → Lines
fed [] ls = ls
fed (e ∷ es) ls = fed es (edited e ls).lines

-- the answer to each of them
abbrev pub answers : List Edit → Lines → List (Result ℕ Fault)
answers [] ls = []
answers (e ∷ es) ls = (edited e ls).answer ∷ answers es (edited e ls).lines

-- the edits, fed to a list of lines, lead to these lines and these answers
abbrev pub Fed : List Edit → Lines → Lines → List (Result ℕ Fault) → Type 0
Fed es ls after said = (after ≡ fed es ls) × (said ≡ answers es ls)
