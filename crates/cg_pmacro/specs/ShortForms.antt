-- The short forms of definitions (docs/LANGUAGE.md, "Macros").
use Rattle.std.specs.Prelude.{ℕ, List, [], ◌∷◌, ◌++◌, codes}

-- a text and a line's end
abbrev pub line : List ℕ → List ℕ
line text = text ++ 10 ∷ []

-- the text that `(include "simplify.inc")` stands for: a definition on each line
abbrev pub short_forms : List ℕ
short_forms =
    line (codes "(define-pmacro (df n c a s l m e d) (define-ifield (name n) (comment c) (.splice attrs (.unsplice a)) (start s) (length l) (mode m) (encode e) (decode d)))") ++
    line (codes "(define-pmacro (dnf n c a s l) (define-ifield (name n) (comment c) (.splice attrs (.unsplice a)) (start s) (length l)))") ++
    line (codes "(define-pmacro (dnmf n c a m s i e) (define-multi-ifield (name n) (comment c) (.splice attrs (.unsplice a)) (mode m) (.splice subfields (.unsplice s)) (insert i) (extract e)))") ++
    line (codes "(define-pmacro (dnop n c a t i) (define-operand (name n) (comment c) (.splice attrs (.unsplice a)) (type t) (index i)))") ++
    line (codes "(define-pmacro (dnh n c a t i v h) (define-hardware (name n) (comment c) (.splice attrs (.unsplice a)) (.splice type (.unsplice t)) (.splice indices (.unsplice i)) (.splice values (.unsplice v)) (.splice handlers (.unsplice h))))") ++
    line (codes "(define-pmacro (dsh n c a t) (define-hardware (name n) (comment c) (.splice attrs (.unsplice a)) (.splice type (.unsplice t))))") ++
    line (codes "(define-pmacro (dni n c a s f m t) (define-insn (name n) (comment c) (.splice attrs (.unsplice a)) (syntax s) (format f) (semantics m) (.splice timing (.unsplice t))))") ++
    line (codes "(define-pmacro (dnmi n c a s e) (define-macro-insn (name n) (comment c) (.splice attrs (.unsplice a)) (syntax s) (expansions e)))")
