-- What a line of input does to the draft. Assumes nothing.
use Rattle.std.specs.Prelude.{◌≡◌, Some, None, Ok, Err}
use Rattle.draft.specs.Plain.{Lines}
use Rattle.draft.specs.Edits.{edited}
use Rattle.console.specs.declared.command.Command.{Command}
use Rattle.console.specs.declared.command.Command.TheVariants.{Edit, List, Help}
use Rattle.console.specs.Commands.{Text, Answer, Asks}

-- the lines after a command
abbrev pub changed : Command → Lines → Lines
changed (Edit e) ls = (edited e ls).lines
changed List ls = ls
changed Help ls = ls

-- a blank line, a remark and what is no command change nothing
abbrev pub heard : Answer → Lines → Lines
heard (Ok (Some c)) ls = changed c ls
heard (Ok None) ls = ls
heard (Err y) ls = ls

-- the lines are changed as the line of input asks
pub record Heeds (bs : Text) (before after : Lines) : Type 0 where
  pub answer : Answer
  pub asks : Asks bs answer
  pub lines : after ≡ heard answer before
