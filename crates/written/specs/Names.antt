-- The name under which a file is written before it takes its own.
use Rattle.std.specs.Prelude.{List, ◌++◌, ℕ}
use Rattle.decimal.specs.Texts.{ascii}

unfoldable pub beside : List ℕ → List ℕ
beside path = path ++ ascii ".new"
