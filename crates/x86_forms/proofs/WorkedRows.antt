-- A list of rows that the checker has read is a list of spellings.
use Rattle.std.proofs.Common.{◌≡◌, ℕ, true, List, [], ◌∷◌, map, length, drop, Option, Some, None, refl, ap, subst}
use Rattle.std.specs.Prelude.{slice_get}
use Rattle.std.specs.List.{list_all}
use Rattle.std.specs.Option.{option_map}
use Rattle.std.proofs.lemmas.Bool.{and_parts}
use Rattle.std.proofs.lemmas.Option.{same_Some}
use Rattle.std.proofs.Math.Seq.{take-length}
use Rattle.x86_forms.specs.declared.instructions.Instr.{Instr}
use Rattle.x86_forms.specs.Spelling.{Spells, are_bytes}
use Rattle.x86_forms.specs.Reading.{cut, prefix_count, rex_len, escape_len, mark_in, find_line, find_row, read_head, row_at, read_operands, width_at, read_instr, read}
use Rattle.x86_forms.specs.Operands.{signed, displacement, has_sib, is_baseless, disp_len, indexed, based, place_of, register, operand_of, width_of, tail_len, at_width}
use Rattle.x86_forms.specs.Table.{table}
use Rattle.x86_forms.specs.Spelling.{allows, is_narrowed, allows_rex, operands_of, instr_of, rm_width, meaning, covers}
use Rattle.x86_forms.specs.Rows.{Worked, SpellsOnly, AllWorked, prefixes, widths, registers, memory, immediates, fields, jumps, locks, left_out}
use Rattle.x86_forms.proofs.Sound.{sound}
use Rattle.x86_forms.proofs.LawLemmas.{nothing}

-- what reading a row should give: all of its bytes
abbrev pub whole : Worked → Option (Instr × ℕ)
whole r = option_map (λ i. (i, length r.0)) r.1

abbrev pub reading : Worked → Option (Instr × ℕ)
reading r = read r.0

spelled : (s : List ℕ) (o : Option Instr) → are_bytes s ≡ true → read s ≡ option_map (λ i. (i, length s)) o → SpellsOnly s o
spelled s (Some i) b e = subst (λ t. Spells i t) (take-length s) (sound s i (length s) b e)
spelled s None b e = nothing s e

-- The checker computes both premises over a whole list.
pub worked : (rows : List Worked) → list_all (λ r. are_bytes r.0) rows ≡ true → map reading rows ≡ map whole rows → AllWorked rows
unfolding AllWorked
worked [] b e = tt
worked (r ∷ rs) b e =
    let a = and_parts (are_bytes r.0) (list_all (λ v. are_bytes v.0) rs) b in
    let first : reading r ≡ whole r = same_Some (reading r) (whole r) (ap (λ (l : List (Option (Instr × ℕ))). slice_get l 0) e) in
    (spelled r.0 r.1 a.0 first, worked rs a.1 (ap (λ (l : List (Option (Instr × ℕ))). drop 1 l) e))

pub prefixes_worked : AllWorked prefixes
unfolding signed displacement has_sib is_baseless disp_len indexed based place_of register operand_of width_of tail_len at_width table allows is_narrowed allows_rex operands_of instr_of rm_width meaning covers cut prefix_count rex_len escape_len mark_in find_line find_row read_head row_at read_operands width_at read_instr read
prefixes_worked = worked prefixes refl refl

pub widths_worked : AllWorked widths
unfolding signed displacement has_sib is_baseless disp_len indexed based place_of register operand_of width_of tail_len at_width table allows is_narrowed allows_rex operands_of instr_of rm_width meaning covers cut prefix_count rex_len escape_len mark_in find_line find_row read_head row_at read_operands width_at read_instr read
widths_worked = worked widths refl refl

pub registers_worked : AllWorked registers
unfolding signed displacement has_sib is_baseless disp_len indexed based place_of register operand_of width_of tail_len at_width table allows is_narrowed allows_rex operands_of instr_of rm_width meaning covers cut prefix_count rex_len escape_len mark_in find_line find_row read_head row_at read_operands width_at read_instr read
registers_worked = worked registers refl refl

pub memory_worked : AllWorked memory
unfolding signed displacement has_sib is_baseless disp_len indexed based place_of register operand_of width_of tail_len at_width table allows is_narrowed allows_rex operands_of instr_of rm_width meaning covers cut prefix_count rex_len escape_len mark_in find_line find_row read_head row_at read_operands width_at read_instr read
memory_worked = worked memory refl refl

pub immediates_worked : AllWorked immediates
unfolding signed displacement has_sib is_baseless disp_len indexed based place_of register operand_of width_of tail_len at_width table allows is_narrowed allows_rex operands_of instr_of rm_width meaning covers cut prefix_count rex_len escape_len mark_in find_line find_row read_head row_at read_operands width_at read_instr read
immediates_worked = worked immediates refl refl

pub fields_worked : AllWorked fields
unfolding signed displacement has_sib is_baseless disp_len indexed based place_of register operand_of width_of tail_len at_width table allows is_narrowed allows_rex operands_of instr_of rm_width meaning covers cut prefix_count rex_len escape_len mark_in find_line find_row read_head row_at read_operands width_at read_instr read
fields_worked = worked fields refl refl

pub jumps_worked : AllWorked jumps
unfolding signed displacement has_sib is_baseless disp_len indexed based place_of register operand_of width_of tail_len at_width table allows is_narrowed allows_rex operands_of instr_of rm_width meaning covers cut prefix_count rex_len escape_len mark_in find_line find_row read_head row_at read_operands width_at read_instr read
jumps_worked = worked jumps refl refl

pub locks_worked : AllWorked locks
unfolding signed displacement has_sib is_baseless disp_len indexed based place_of register operand_of width_of tail_len at_width table allows is_narrowed allows_rex operands_of instr_of rm_width meaning covers cut prefix_count rex_len escape_len mark_in find_line find_row read_head row_at read_operands width_at read_instr read
locks_worked = worked locks refl refl

pub left_out_worked : AllWorked left_out
unfolding signed displacement has_sib is_baseless disp_len indexed based place_of register operand_of width_of tail_len at_width table allows is_narrowed allows_rex operands_of instr_of rm_width meaning covers cut prefix_count rex_len escape_len mark_in find_line find_row read_head row_at read_operands width_at read_instr read
left_out_worked = worked left_out refl refl
