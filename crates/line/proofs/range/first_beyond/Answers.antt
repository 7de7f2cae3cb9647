use Rattle.std.proofs.Common.{◌≡◌, ap, ◌∙◌, rules, tests}
use Rattle.std.specs.Option.{option_map}
use Rattle.std.proofs.lemmas.Iterator.Consumers.{YieldsList-from_first}
use Rattle.std.proofs.lemmas.Iterator.Search.{find_from_yields_List}
use Rattle.line.specs.Cursors.{ahead, piece_of}
use Rattle.line.specs.Pieces.{Piece, pieces}
use Rattle.line.specs.Ranges.{is_beyond}
use Rattle.line.proofs.range.first_beyond.Goals as goal

pub returns : goal.returns
returns c =
    let ps = pieces 1 c.args.text.now in
    let found = find_from_yields_List (λ (p : Piece). is_beyond p.text) c.find.new.self _ c.find.result c.find.ensures.ran (YieldsList-from_first piece_of ahead ps (search rules)) (λ x b q k. search (rules, tests)) in
    let mapped : c.map.result ≡ option_map (λ (p : Piece). p.column) (option_map piece_of c.find.result) = search rules in
    mapped ∙ ap (option_map (λ (p : Piece). p.column)) found
