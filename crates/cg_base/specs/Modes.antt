-- The integer modes: how many bits a value has, and whether its highest bit is a sign.
use Rattle.std.specs.Prelude.{ℕ, Bool, true, false, ◌==◌, if◌then◌else◌, List, codes}
use Rattle.cg_base.specs.declared.mode.Mode.{Mode}
use Rattle.cg_base.specs.declared.mode.Mode.TheVariants.{Bi, Qi, Hi, Si, Di, Uqi, Uhi, Usi, Udi, Void}

-- A value of the mode has this many bits.
abbrev pub bits_of : Mode → ℕ
bits_of Bi = 1
bits_of Qi = 8
bits_of Hi = 16
bits_of Si = 32
bits_of Di = 64
bits_of Uqi = 8
bits_of Uhi = 16
bits_of Usi = 32
bits_of Udi = 64
bits_of Void = 0

-- The highest bit of a value of the mode is its sign.
abbrev pub is_signed : Mode → Bool
is_signed Qi = true
is_signed Hi = true
is_signed Si = true
is_signed Di = true
is_signed _ = false

-- The mode of the cpu's word with a sign, in which a number stands of which nothing else is wanted.
abbrev pub word_mode : ℕ → Mode
word_mode bits = if bits == 8 then Qi else if bits == 16 then Hi else if bits == 32 then Si else Di

-- The mode of an address: the cpu's word without a sign.
abbrev pub address_mode : ℕ → Mode
address_mode bits = if bits == 8 then Uqi else if bits == 16 then Uhi else if bits == 32 then Usi else Udi

-- The place of a mode among all modes.
abbrev pub mode_place : Mode → ℕ
mode_place Bi = 0
mode_place Qi = 1
mode_place Hi = 2
mode_place Si = 3
mode_place Di = 4
mode_place Uqi = 5
mode_place Uhi = 6
mode_place Usi = 7
mode_place Udi = 8
mode_place Void = 9

-- The words for modes: of two that are one mode, the one without the cpu's word.
abbrev pub mode_word : Mode → List ℕ
mode_word Bi = codes "BI"
mode_word Qi = codes "QI"
mode_word Hi = codes "HI"
mode_word Si = codes "SI"
mode_word Di = codes "DI"
mode_word Uqi = codes "UQI"
mode_word Uhi = codes "UHI"
mode_word Usi = codes "USI"
mode_word Udi = codes "UDI"
mode_word Void = codes "VOID"
