-- A machine is formed where all tests hold.
use Rattle.std.proofs.Common.{◌≡◌, Bool, true, false, ◌&&◌, refl}
use Rattle.std.specs.List.{list_all}
use Rattle.std.proofs.lemmas.Bool.{false≢true}
use Rattle.std.proofs.lemmas.Grind.{common_steps}
use Rattle.cg_model.specs.Formed.{is_cpu_word, is_size, is_width, is_field, is_multi, is_hardware, is_insn, is_macro, IsFormed}
use Rattle.cg_model.specs.declared.machine.Machine.{Machine}
use Rattle.cg_desc_check_values.specs.Wholes.{is_frame, are_elements}

first : (a b : Bool) → (a && b) ≡ true → a ≡ true
first true b h = refl
first false b h = h

second : (a b : Bool) → (a && b) ≡ true → b ≡ true
second true b h = h
second false b h = absurd (false≢true h)

both : (a b : Bool) → a ≡ true → b ≡ true → (a && b) ≡ true
both a b e f = rw (e, f) refl

pub formed_by : (m : Machine) → is_frame m ≡ true → are_elements m ≡ true → IsFormed m
formed_by m frame elements =
    let a : Bool = is_cpu_word m.word_bits in
    let b : Bool = is_size m.base_bits in
    let f : Bool = list_all is_field m.fields in
    let x : Bool = list_all is_multi m.multis in
    let h : Bool = list_all (is_hardware m) m.hardware in
    let i : Bool = list_all is_insn m.insns in
    let two : (a && b) ≡ true = first (a && b) (is_width m) frame in
    let four : (f && x && h && i) ≡ true = first (f && x && h && i) (list_all is_macro m.macros) elements in
    let three : (f && x && h) ≡ true = first (f && x && h) i four in
    let pair : (f && x) ≡ true = first (f && x) h three in
    record {
      word = first a b two;
      base = second a b two;
      width = second (a && b) (is_width m) frame;
      fields = first f x pair;
      multis = second f x pair;
      hardware = second (f && x) h three;
      insns = second (f && x && h) i four;
      macros = second (f && x && h && i) (list_all is_macro m.macros) elements;
    }

pub framed : (m : Machine) → IsFormed m → is_frame m ≡ true
framed m h = both _ _ (both _ _ h.word h.base) h.width

pub elements_formed : (m : Machine) → IsFormed m → are_elements m ≡ true
elements_formed m h = both _ _ (both _ _ (both _ _ (both _ _ h.fields h.multis) h.hardware) h.insns) h.macros

pub ruleset whole_rules = (common_steps, formed_by, framed, elements_formed)
