-- What a reader finds where a header, a symbol or a table of them was written.
use Rattle.std.proofs.Common.{◌≡◌, ℕ, ◌+◌, ◌*◌, ◌^◌, ◌<◌, ◌≤◌, List, [], ◌∷◌, ◌++◌, length, map, take, drop, sym, refl, ap, ◌∙◌, arith, length-append, append_assoc}
use Rattle.std.specs.List.{flat_map, range_with_len}
use Rattle.std.proofs.lemmas.List.{drop_at, drop-drop, take_at}
use Rattle.byteorder.specs.Endian.{little_number}
use Rattle.byteorder.specs.Numbers.{little_number-reads_back}
use Rattle.elf_image.specs.Elf as elf
use Rattle.elf_image.specs.Elf.{number_at, table, part}
use Rattle.elf_writer.specs.declared.elf.header.Section.{Section}
use Rattle.elf_writer.specs.declared.elf.header.Symbol.{Symbol}
use Rattle.elf_writer.specs.ElfField.{fields_bytes}
use Rattle.elf_writer.specs.ElfFile.{Placed, flags_of, file_fields, program_fields, section_fields, symbol_fields, program_bytes, section_bytes, symbol_bytes}

-- ---- numbers and parts

-- a number behind the front is the same number behind none
number_past : (n k : ℕ) (a b : List ℕ) → number_at n (length a + k) (a ++ b) ≡ number_at n k b
unfolding number_at
number_past n k a b = ap (little_number n) (sym (drop-drop k (length a) (a ++ b)) ∙ ap (drop k) (drop_at a b (length a) refl))

number_front : (n : ℕ) (a b : List ℕ) → number_at n (length a) (a ++ b) ≡ number_at n 0 b
unfolding number_at
number_front n a b = ap (little_number n) (drop_at a b (length a) refl)

-- a part is found behind as many bytes as stand in front of it
pub part_found : (a b c : List ℕ) (offset size : ℕ) → length a ≡ offset → length b ≡ size → part offset size (a ++ (b ++ c)) ≡ b
part_found a b c offset size at long = ap (take size) (drop_at a (b ++ c) offset at) ∙ take_at b c size long

-- ---- one header or symbol

pub file_found : (entry n : ℕ) (c : List ℕ) → elf.file_header (fields_bytes (file_fields entry n) ++ c) ≡ elf.file_header (fields_bytes (file_fields entry n))
unfolding elf.file_header file_fields number_at
file_found entry n c = refl

pub program_found : (p : Placed) (a c : List ℕ) → elf.program_header (a ++ (program_bytes p ++ c)) (length a) ≡ elf.program_header (program_bytes p) 0
unfolding elf.program_header program_fields number_at
program_found p a c =
    let rest = program_bytes p ++ c in
    let kind : number_at 4 (length a) (a ++ (program_bytes p ++ c)) ≡ number_at 4 0 (program_bytes p) = number_front 4 a rest in
    let flags : number_at 4 (length a + 4) (a ++ (program_bytes p ++ c)) ≡ number_at 4 4 (program_bytes p) = number_past 4 4 a rest in
    let offset : number_at 8 (length a + 8) (a ++ (program_bytes p ++ c)) ≡ number_at 8 8 (program_bytes p) = number_past 8 8 a rest in
    let vaddr : number_at 8 (length a + 16) (a ++ (program_bytes p ++ c)) ≡ number_at 8 16 (program_bytes p) = number_past 8 16 a rest in
    let filesz : number_at 8 (length a + 32) (a ++ (program_bytes p ++ c)) ≡ number_at 8 32 (program_bytes p) = number_past 8 32 a rest in
    let memsz : number_at 8 (length a + 40) (a ++ (program_bytes p ++ c)) ≡ number_at 8 40 (program_bytes p) = number_past 8 40 a rest in
    rw (kind, flags, offset, vaddr, filesz, memsz) refl

pub section_found : (s : Section) (a c : List ℕ) → elf.section_header (a ++ (section_bytes s ++ c)) (length a) ≡ elf.section_header (section_bytes s) 0
unfolding elf.section_header section_fields number_at
section_found s a c =
    let rest = section_bytes s ++ c in
    let kind : number_at 4 (length a + 4) (a ++ (section_bytes s ++ c)) ≡ number_at 4 4 (section_bytes s) = number_past 4 4 a rest in
    let offset : number_at 8 (length a + 24) (a ++ (section_bytes s ++ c)) ≡ number_at 8 24 (section_bytes s) = number_past 8 24 a rest in
    let size : number_at 8 (length a + 32) (a ++ (section_bytes s ++ c)) ≡ number_at 8 32 (section_bytes s) = number_past 8 32 a rest in
    let link : number_at 4 (length a + 40) (a ++ (section_bytes s ++ c)) ≡ number_at 4 40 (section_bytes s) = number_past 4 40 a rest in
    let entsize : number_at 8 (length a + 56) (a ++ (section_bytes s ++ c)) ≡ number_at 8 56 (section_bytes s) = number_past 8 56 a rest in
    rw (kind, offset, size, link, entsize) refl

pub symbol_found : (s : Symbol) (a c : List ℕ) → elf.symbol (a ++ (symbol_bytes s ++ c)) (length a) ≡ elf.symbol (symbol_bytes s) 0
unfolding elf.symbol symbol_fields number_at
symbol_found s a c =
    let rest = symbol_bytes s ++ c in
    let name : number_at 4 (length a) (a ++ (symbol_bytes s ++ c)) ≡ number_at 4 0 (symbol_bytes s) = number_front 4 a rest in
    let info : number_at 1 (length a + 4) (a ++ (symbol_bytes s ++ c)) ≡ number_at 1 4 (symbol_bytes s) = number_past 1 4 a rest in
    let section : number_at 2 (length a + 6) (a ++ (symbol_bytes s ++ c)) ≡ number_at 2 6 (symbol_bytes s) = number_past 2 6 a rest in
    let value : number_at 8 (length a + 8) (a ++ (symbol_bytes s ++ c)) ≡ number_at 8 8 (symbol_bytes s) = number_past 8 8 a rest in
    rw (name, info, section, value) refl

-- ---- their fields

-- what is read of the file header that is written
pub record FileReads (bytes : List ℕ) (first n : ℕ) : Type 0 where
  pub kind : (elf.file_header bytes).kind ≡ 2
  pub machine : (elf.file_header bytes).machine ≡ 62
  pub entry : (elf.file_header bytes).entry ≡ first
  pub phoff : (elf.file_header bytes).phoff ≡ 64
  pub shoff : (elf.file_header bytes).shoff ≡ 64 + 56 * n
  pub phentsize : (elf.file_header bytes).phentsize ≡ 56
  pub phnum : (elf.file_header bytes).phnum ≡ n
  pub shentsize : (elf.file_header bytes).shentsize ≡ 64
  pub shnum : (elf.file_header bytes).shnum ≡ n + 4

pub file_reads : (entry n : ℕ) (c : List ℕ) → entry < 2 ^ 64 → n ≤ 16 → FileReads (fields_bytes (file_fields entry n) ++ c) entry n
unfolding elf.file_header file_fields number_at
file_reads entry n c entry_fits few = record {
  kind = refl;
  machine = refl;
  entry = little_number-reads_back 8 entry [] entry_fits;
  phoff = refl;
  shoff = little_number-reads_back 8 (64 + 56 * n) [] (omega arith);
  phentsize = refl;
  phnum = little_number-reads_back 2 n [] (omega arith);
  shentsize = refl;
  shnum = little_number-reads_back 2 (n + 4) [] (omega arith);
}

pub record ProgramReads (p : Placed) : Type 0 where
  pub kind : (elf.program_header (program_bytes p) 0).kind ≡ 1
  pub flags : (elf.program_header (program_bytes p) 0).flags ≡ flags_of p.segment
  pub offset : (elf.program_header (program_bytes p) 0).offset ≡ p.offset
  pub vaddr : (elf.program_header (program_bytes p) 0).vaddr ≡ p.segment.at
  pub filesz : (elf.program_header (program_bytes p) 0).filesz ≡ p.segment.size
  pub memsz : (elf.program_header (program_bytes p) 0).memsz ≡ p.segment.size

pub program_reads : (p : Placed) → flags_of p.segment < 8 → p.offset < 2 ^ 64 → p.segment.at < 2 ^ 64 → p.segment.size < 2 ^ 64 → ProgramReads p
unfolding elf.program_header program_fields number_at
program_reads p flags offset at size = record {
  kind = refl;
  flags = little_number-reads_back 4 (flags_of p.segment) [] (omega arith);
  offset = little_number-reads_back 8 p.offset [] offset;
  vaddr = little_number-reads_back 8 p.segment.at [] at;
  filesz = little_number-reads_back 8 p.segment.size [] size;
  memsz = little_number-reads_back 8 p.segment.size [] size;
}

pub record SectionReads (s : Section) : Type 0 where
  pub kind : (elf.section_header (section_bytes s) 0).kind ≡ s.kind
  pub offset : (elf.section_header (section_bytes s) 0).offset ≡ s.offset
  pub size : (elf.section_header (section_bytes s) 0).size ≡ s.size
  pub link : (elf.section_header (section_bytes s) 0).link ≡ s.link
  pub entsize : (elf.section_header (section_bytes s) 0).entsize ≡ s.entsize

pub section_reads : (s : Section) → s.kind < 2 ^ 32 → s.offset < 2 ^ 64 → s.size < 2 ^ 64 → s.link < 2 ^ 32 → s.entsize < 2 ^ 64 → SectionReads s
unfolding elf.section_header section_fields number_at
section_reads s kind offset size link entsize = record {
  kind = little_number-reads_back 4 s.kind [] kind;
  offset = little_number-reads_back 8 s.offset [] offset;
  size = little_number-reads_back 8 s.size [] size;
  link = little_number-reads_back 4 s.link [] link;
  entsize = little_number-reads_back 8 s.entsize [] entsize;
}

pub record SymbolReads (s : Symbol) : Type 0 where
  pub name : (elf.symbol (symbol_bytes s) 0).name ≡ s.name
  pub info : (elf.symbol (symbol_bytes s) 0).info ≡ s.info
  pub section : (elf.symbol (symbol_bytes s) 0).section ≡ s.section
  pub value : (elf.symbol (symbol_bytes s) 0).value ≡ s.value

pub symbol_reads : (s : Symbol) → s.name < 2 ^ 32 → s.info < 2 ^ 8 → s.section < 2 ^ 16 → s.value < 2 ^ 64 → SymbolReads s
unfolding elf.symbol symbol_fields number_at
symbol_reads s name info section value = record {
  name = little_number-reads_back 4 s.name [] name;
  info = little_number-reads_back 1 s.info [] info;
  section = little_number-reads_back 2 s.section [] section;
  value = little_number-reads_back 8 s.value [] value;
}

-- ---- sizes

pub length-file : (entry n : ℕ) → length (fields_bytes (file_fields entry n)) ≡ 64
unfolding file_fields
length-file entry n = refl

pub length-program : (p : Placed) → length (program_bytes p) ≡ 56
unfolding program_fields
length-program p = refl

pub length-section : (s : Section) → length (section_bytes s) ≡ 64
unfolding section_fields
length-section s = refl

pub length-symbol : (s : Symbol) → length (symbol_bytes s) ≡ 24
unfolding symbol_fields
length-symbol s = refl

-- ---- tables

pub length-table : {Y : Type 0} (write : Y → List ℕ) (size : ℕ) → ((y : Y) → length (write y) ≡ size) → (ys : List Y) → length (flat_map write ys) ≡ size * length ys
length-table write size long [] = omega arith
length-table write size long (y ∷ ys) = omega (arith, length-append (write y) (flat_map write ys), long y, length-table write size long ys)

table_from : {X Y : Type 0} (read : List ℕ → ℕ → X) (write : Y → List ℕ) (size : ℕ)
    → ((y : Y) (a c : List ℕ) → read (a ++ (write y ++ c)) (length a) ≡ read (write y) 0)
    → ((y : Y) → length (write y) ≡ size)
    → (ys : List Y) (a c bytes : List ℕ) (offset j : ℕ) → bytes ≡ a ++ (flat_map write ys ++ c) → length a ≡ offset + size * j
    → map (λ n. read bytes (offset + size * n)) (range_with_len j (length ys)) ≡ map (λ y. read (write y) 0) ys
table_from read write size found long [] a c bytes offset j is at = refl
table_from read write size found long (y ∷ ys) a c bytes offset j is at =
    let rest = flat_map write ys ++ c in
    let regrouped : bytes ≡ a ++ (write y ++ (flat_map write ys ++ c)) = is ∙ ap (λ b. a ++ b) (append_assoc (write y) (flat_map write ys) c) in
    let further : bytes ≡ (a ++ write y) ++ (flat_map write ys ++ c) = regrouped ∙ sym (append_assoc a (write y) (flat_map write ys ++ c)) in
    let first : read bytes (offset + size * j) ≡ read (write y) 0 = ap (λ b. read b (offset + size * j)) regrouped ∙ ap (read (a ++ (write y ++ rest))) (sym at) ∙ found y a rest in
    let others : map (λ n. read bytes (offset + size * n)) (range_with_len (j + 1) (length ys)) ≡ map (λ y. read (write y) 0) ys = table_from read write size found long ys (a ++ write y) c bytes offset (j + 1) further (omega (arith, length-append a (write y), long y)) in
    cc

-- a table is read entry by entry as it was written
pub table_found : {X Y : Type 0} (read : List ℕ → ℕ → X) (write : Y → List ℕ) (size : ℕ)
    → ((y : Y) (a c : List ℕ) → read (a ++ (write y ++ c)) (length a) ≡ read (write y) 0)
    → ((y : Y) → length (write y) ≡ size)
    → (ys : List Y) (a c : List ℕ) (offset count : ℕ) → length a ≡ offset → length ys ≡ count
    → table read offset size count (a ++ (flat_map write ys ++ c)) ≡ map (λ y. read (write y) 0) ys
table_found read write size found long ys a c offset count at all =
    rw (← all) (table_from read write size found long ys a c (a ++ (flat_map write ys ++ c)) offset 0 refl (omega arith))
