-- Parts of a list.
use Rattle.std.specs.Prelude.{List, ◌++◌, ℕ, take, drop}

-- the size elements from base on, and the list with others in their place
unfoldable pub inner : ℕ → ℕ → List ℕ → List ℕ
inner base size m = take size (drop base m)

unfoldable pub outer : ℕ → ℕ → List ℕ → List ℕ → List ℕ
outer base size m k = take base m ++ (k ++ drop size (drop base m))
