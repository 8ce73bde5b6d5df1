-- The made example: a description and a source, determined by a number.
use Rattle.std.specs.Prelude.{ℕ, zero, suc, ◌+◌, ◌*◌, ◌/◌, ◌%◌, ◌^◌, ℤ, pos, ◌-ℤ◌, List, [], ◌∷◌, ◌++◌, slice_index_or, codes}
use Rattle.std.specs.List.{concat}
use Rattle.std.specs.Fmt.{decimal, signed_decimal}

-- Draws are made from a state, which starts at the number. This is the state behind a draw.
abbrev pub next : ℕ → ℕ
next x = (x * 6364136223846793005 + 1442695040888963407) % 2 ^ 64

-- what a draw gives
abbrev pub drawn : ℕ → ℕ
drawn x = next x / 2 ^ 33

-- the state after so many draws
unfoldable pub after : ℕ → ℕ → ℕ
after zero x = x
after (suc n) x = next (after n x)

-- how many instructions the machine has besides `halt`
abbrev pub count_of : ℕ → ℕ
count_of number = 64 + number % 961

-- the lines in front of the instructions
unfoldable pub head : List ℕ
head =
    codes "(include \"simplify.inc\")\n"
    ++ codes "(define-arch (name l32) (insn-lsb0? #t) (machs l32) (isas l32))\n"
    ++ codes "(define-isa (name l32) (base-insn-bitsize 32))\n"
    ++ codes "(define-cpu (name l32c) (endian little) (word-bitsize 32))\n"
    ++ codes "(define-mach (name l32) (cpu l32c))\n"
    ++ codes "(dnf f-k \"\" () 31 12)\n"
    ++ codes "(dnf f-rd \"\" () 19 4)\n"
    ++ codes "(dnf f-ra \"\" () 15 4)\n"
    ++ codes "(df f-imm \"\" () 11 12 INT #f #f)\n"
    ++ codes "(dnh h-gr \"\" () (register SI (16)) (keyword \"\" (.map (.pmacro (n) (.list (.sym r n) n)) (.iota 16))) () ())\n"
    ++ codes "(dnop rd \"\" () h-gr f-rd)\n"
    ++ codes "(dnop ra \"\" () h-gr f-ra)\n"
    ++ codes "(dnop imm \"\" () h-sint f-imm)\n"

-- the operation of an instruction, by a draw
abbrev pub operations : List (List ℕ)
operations = codes "add" ∷ codes "sub" ∷ codes "mul" ∷ codes "and" ∷ codes "or" ∷ codes "xor" ∷ codes "sll" ∷ codes "srl" ∷ []

abbrev pub operation : ℕ → List ℕ
operation draw = slice_index_or operations (draw % 8) []

-- the line of the k-th instruction
abbrev pub instruction_line : ℕ → List ℕ → List ℕ
instruction_line k op =
    concat (codes "(dni i" ∷ decimal k ∷ codes " \"\" () \"i" ∷ decimal k ∷ codes " $rd,$ra,$imm\" (+ (f-k " ∷ decimal k
    ∷ codes ") rd ra imm) (set rd (" ∷ op ∷ codes " ra imm)) ())\n" ∷ [])

-- the lines of the first instructions, with one draw for each from the state x on
unfoldable pub instructions : ℕ → ℕ → List ℕ
instructions x zero = []
instructions x (suc k) = instructions x k ++ instruction_line k (operation (drawn (after k x)))

-- the last line
abbrev pub halt_line : List ℕ
halt_line = codes "(dni halt \"\" () \"halt\" (+ (f-k 4095)) (c-call VOID \"cgen_halt\" 0) ())\n"

abbrev pub description : ℕ → List ℕ
description number = head ++ instructions number (count_of number) ++ halt_line

-- the line of a statement
abbrev pub statement : ℕ → ℕ → ℕ → ℤ → List ℕ
statement k d a value =
    concat (codes "i" ∷ decimal k ∷ codes " r" ∷ decimal d ∷ codes ",r" ∷ decimal a ∷ codes "," ∷ signed_decimal value ∷ codes "\n" ∷ [])

-- the constant of a statement, by a draw
abbrev pub value : ℕ → ℤ
value draw = pos (draw % 4096) -ℤ pos 2048

-- a statement of one of n instructions, by four draws from the state x on
abbrev pub drawn_statement : ℕ → ℕ → List ℕ
drawn_statement n x =
    statement (drawn x % n) (drawn (next x) % 16) (drawn (next (next x)) % 16) (value (drawn (next (next (next x)))))

-- the first statements, with four draws for each from the state x on
unfoldable pub statements : ℕ → ℕ → ℕ → List ℕ
statements n x zero = []
statements n x (suc i) = statements n x i ++ drawn_statement n (after (4 * i) x)

-- the draws go on where those of the description ended
abbrev pub source : ℕ → List ℕ
source number = statements (count_of number) (after (count_of number) number) 4096 ++ codes "halt\n"
