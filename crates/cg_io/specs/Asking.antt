-- What is asked of files.
use Rattle.std.specs.Prelude.{ℕ, List}
use Rattle.std.specs.Coded.{Coded, coded×, coded_list, coded_ℕ}

-- A name, and the most bytes that may be read of it.
abbrev pub Asking : Type 0
Asking = List ℕ × ℕ

-- how a list of them is stored
abbrev pub askings_code : Coded (List Asking)
askings_code = coded_list (coded× (coded_list coded_ℕ) coded_ℕ)
