-- What the words of a command ask.
use Rattle.std.specs.Prelude.{ℕ, ◌+◌, ◌-◌, ◌*◌, ◌&&◌, nat_le, if◌then◌else◌, List, [], ◌∷◌, length, Option, Some, None, codes}
use Rattle.cg_base.specs.Parts.{◌>>=◌}
use Rattle.cg_base.specs.Numerals.{number_written}
use Rattle.cg_base.specs.Texts.{same_text}
use Rattle.cg_top_include.specs.Shape.{two, three, four}
use Rattle.cg_top.specs.declared.asking.Asked.{Asked}
use Rattle.cg_top.specs.declared.asking.Command.TheVariants.{Check, Decode, Assemble, ListImage}

-- The number that a hexadecimal digit stands for.
abbrev pub digit_of : ℕ → Option ℕ
digit_of b =
    if nat_le 48 b && nat_le b 57 then Some (b - 48)
    else if nat_le 65 b && nat_le b 70 then Some (b - 55)
    else if nat_le 97 b && nat_le b 102 then Some (b - 87)
    else None

-- The bytes that hexadecimal digits write, two digits a byte. An odd count of digits writes none.
abbrev pub bytes_of : List ℕ → Option (List ℕ)
bytes_of [] = Some []
bytes_of (a ∷ []) = None
bytes_of (a ∷ b ∷ rest) = digit_of a >>= λ high. digit_of b >>= λ low. bytes_of rest >>= λ bytes. Some ((16 * high + low) ∷ bytes)

-- The bytes of 2 to 32 digits.
abbrev pub hex_bytes : List ℕ → Option (List ℕ)
hex_bytes digits = if nat_le 2 (length digits) && nat_le (length digits) 32 then bytes_of digits else None

-- What `DESC MACH HEX` ask behind `decode`.
unfoldable pub decode_asked : List (List ℕ) → Option Asked
decode_asked words = do
  x ← three words
  bytes ← hex_bytes x.2
  Some (record { desc = x.0; mach = x.1; command = Decode bytes })

-- What `DESC MACH` ask behind `check`.
unfoldable pub check_asked : List (List ℕ) → Option Asked
check_asked words = do
  x ← two words
  Some (record { desc = x.0; mach = x.1; command = Check })

-- The elements of a list of just five.
abbrev pub five : {A : Type 0} → List A → Option (A × A × A × A × A)
five (a ∷ b ∷ c ∷ d ∷ e ∷ []) = Some (a, b, c, d, e)
five _ = None

-- What `DESC MACH SOURCE BASE IMAGE` ask behind `asm`.
unfoldable pub asm_asked : List (List ℕ) → Option Asked
asm_asked words = do
  x ← five words
  base ← number_written x.3
  Some (record { desc = x.0; mach = x.1; command = Assemble (record { source = x.2; base = base; image = x.4 }) })

-- What `DESC MACH IMAGE BASE` ask behind `list`.
unfoldable pub list_asked : List (List ℕ) → Option Asked
list_asked words = do
  x ← four words
  base ← number_written x.3
  Some (record { desc = x.0; mach = x.1; command = ListImage (record { image = x.2; base = base }) })

abbrev pub asked_by : List ℕ → List (List ℕ) → Option Asked
asked_by command words =
    if same_text command (codes "decode") then decode_asked words
    else if same_text command (codes "check") then check_asked words
    else if same_text command (codes "asm") then asm_asked words
    else if same_text command (codes "list") then list_asked words
    else None

-- What the words ask: the first is the command.
abbrev pub asked : List (List ℕ) → Option Asked
asked [] = None
asked (command ∷ words) = asked_by command words
