-- Tables of headers and symbols, entry by entry.
use Rattle.std.proofs.Common.{◌≡◌, ℕ, suc, ◌+◌, ◌-◌, ◌*◌, ◌<◌, ◌≤◌, true, false, List, [], ◌∷◌, ◌++◌, length, map, Some, None, refl, arith}
use Rattle.std.specs.List.{range_with_len, find}
use Rattle.std.proofs.lemmas.Bool.Decides.{nat_tests}
use Rattle.std.proofs.lemmas.List.FromFn.{length-map-range_with_len, map-range_with_len_more}
use Rattle.elf_image.specs.declared.header.FileHeader.{FileHeader}
use Rattle.elf_image.specs.declared.header.ProgramHeader.{ProgramHeader}
use Rattle.elf_image.specs.Elf.{table, file_header, program_header, program_headers, is_dynamic_segment, dynamic_range}
use Rattle.elf_image.specs.Loading.{is_bad_table}

-- one more entry
pub table_more : {X : Type 0} (entry : List ℕ → ℕ → X) (offset size n : ℕ) (bytes : List ℕ) → table entry offset size (n + 1) bytes ≡ table entry offset size n bytes ++ entry bytes (offset + size * n) ∷ []
table_more entry offset size n bytes = map-range_with_len_more (λ k. entry bytes (offset + size * k)) 0 n n (omega arith)

-- each program header stands in the file
pub program_header_fits : (count entsize offset n : ℕ) (bytes : List ℕ) → is_bad_table count entsize 56 offset bytes ≡ false → n < count → offset + 56 * n + 56 ≤ length bytes
program_header_fits count entsize offset n bytes whole lt = grind (arith, nat_tests)

-- each section header stands in the file
pub section_header_fits : (count entsize offset n : ℕ) (bytes : List ℕ) → is_bad_table count entsize 64 offset bytes ≡ false → n < count → offset + 64 * n + 64 ≤ length bytes
section_header_fits count entsize offset n bytes whole lt = grind (arith, nat_tests)

pub length-table : {X : Type 0} (entry : List ℕ → ℕ → X) (offset size n : ℕ) (bytes : List ℕ) → length (table entry offset size n bytes) ≡ n
length-table entry offset size n bytes = length-map-range_with_len (λ k. entry bytes (offset + size * k)) 0 n

-- ---- the first dynamic segment

abbrev pub headers_from : List ℕ → ℕ → ℕ → ℕ → List ProgramHeader
headers_from bytes phoff n count = map (λ k. program_header bytes (phoff + 56 * k)) (range_with_len n (count - n))

-- the first among the headers from n on is the first of all
abbrev pub IsFirstDynamic : List ℕ → FileHeader → ℕ → Type 0
IsFirstDynamic bytes file n = find is_dynamic_segment (headers_from bytes file.phoff n file.phnum) ≡ find is_dynamic_segment (program_headers bytes)

pub dynamic_of_all : (bytes : List ℕ) (file : FileHeader) → file ≡ file_header bytes → IsFirstDynamic bytes file 0
unfolding program_headers
dynamic_of_all bytes file is =
    let e : file.phnum - 0 ≡ file.phnum = omega arith in
    rw (e, is) refl

headers_split : (bytes : List ℕ) (phoff n count : ℕ) (h : ProgramHeader) → n < count → h ≡ program_header bytes (phoff + 56 * n) → headers_from bytes phoff n count ≡ h ∷ headers_from bytes phoff (n + 1) count
headers_split bytes phoff n count h lt is =
    let e : count - n ≡ suc (count - (n + 1)) = omega arith in
    rw (e, ← is) refl

pub dynamic_skips : (bytes : List ℕ) (file : FileHeader) (n : ℕ) (h : ProgramHeader) → n < file.phnum → h ≡ program_header bytes (file.phoff + 56 * n) → is_dynamic_segment h ≡ false → IsFirstDynamic bytes file n → IsFirstDynamic bytes file (n + 1)
dynamic_skips bytes file n h lt is other so_far = rw (headers_split bytes file.phoff n file.phnum h lt is, other) at so_far

pub dynamic_found : (bytes : List ℕ) (file : FileHeader) (n : ℕ) (h : ProgramHeader) → n < file.phnum → h ≡ program_header bytes (file.phoff + 56 * n) → is_dynamic_segment h ≡ true → IsFirstDynamic bytes file n → Some (record { offset = h.offset; size = h.filesz }) ≡ dynamic_range bytes
unfolding dynamic_range
dynamic_found bytes file n h lt is this so_far =
    let found : Some h ≡ find is_dynamic_segment (program_headers bytes) = rw (headers_split bytes file.phoff n file.phnum h lt is, this) at so_far in
    rw (← found) refl

pub dynamic_absent : (bytes : List ℕ) (file : FileHeader) (n : ℕ) → file.phnum ≤ n → IsFirstDynamic bytes file n → None ≡ dynamic_range bytes
unfolding dynamic_range
dynamic_absent bytes file n past so_far =
    let e : file.phnum - n ≡ 0 = omega arith in
    let found : None ≡ find is_dynamic_segment (program_headers bytes) = rw e at so_far in
    rw (← found) refl
