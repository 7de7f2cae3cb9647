-- How a refusal is shown: layer, number, line and column, parted by single spaces (byte 32). Assumes nothing.
use Rattle.std.specs.Prelude.{ℕ, List, ◌∷◌, ◌++◌, codes, decimal}
use Rattle.fault.specs.declared.Fault.{Fault}
use Rattle.fault.specs.declared.Layer.{Layer}
use Rattle.fault.specs.declared.Layer.TheVariants.{Text, Draft, Seal}
use Rattle.fault.specs.Table.{layer_of, number_of}

abbrev pub layer_text : Layer → List ℕ
layer_text Text = codes "text"
layer_text Draft = codes "draft"
layer_text Seal = codes "seal"

abbrev pub fault_text : Fault → List ℕ
fault_text f = layer_text (layer_of f.kind) ++ 32 ∷ (decimal (number_of f.kind) ++ 32 ∷ (decimal f.line ++ 32 ∷ decimal f.column))
