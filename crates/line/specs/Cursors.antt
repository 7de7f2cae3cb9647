-- What a cursor has before it. Assumes nothing.
use Rattle.std.specs.Prelude.{List}
use Rattle.line.specs.declared.cursor.Cursor.{Cursor}
use Rattle.line.specs.declared.cursor.Token.{Token}
use Rattle.line.specs.Pieces.{Piece, pieces}

abbrev pub piece_of : Token → Piece
piece_of t = record { text = t.text.now; column = t.column }

-- the tokens that a cursor has before it
abbrev pub ahead : Cursor → List Piece
ahead k = pieces k.column k.rest.now
