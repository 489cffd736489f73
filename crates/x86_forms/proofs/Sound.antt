-- What is read is a spelling.
use Rattle.std.proofs.Common.{◌≡◌, ℕ, ◌-◌, ◌≤◌, Bool, true, false, ◌&&◌, List, ◌++◌, length, take, drop, Option, Some, None, refl, sym, ap, subst, arith, ◌∙◌, append_assoc, length-append}
use Rattle.std.specs.Prelude.{nat_eq, nat_lt, slice_get}
use Rattle.std.proofs.lemmas.Bool.{and_parts}
use Rattle.std.proofs.lemmas.List.{take-append-drop, length-take, take_at}
use Rattle.std.proofs.lemmas.List.Folds.{list_all-append}
use Rattle.std.proofs.lemmas.Option.{same_Some, some_pair_parts}
use Rattle.x86_forms.specs.declared.operands.Width.{Width}
use Rattle.x86_forms.specs.declared.instructions.Instr.{Instr}
use Rattle.x86_forms.specs.declared.rows.Row.{Row}
use Rattle.x86_forms.specs.Operands.{byte, rex_w, rex_b, middle_field, width_of, tail_len}
use Rattle.x86_forms.specs.Table.{Line, same, table}
use Rattle.x86_forms.specs.Spelling.{Parts, bytes_of, HasForm, Spells, escape_bytes, modrm_len, covers, mark_of, sib_len, disp_size, is_asked, is_rex_part, meaning, allows, allows_rex, is_narrowed, are_bytes}
use Rattle.x86_forms.specs.Reading.{◌>>=◌, Head, with_operands, prefix_count, rex_len, escape_len, read_head, row_at, width_at, read_operands, read_instr, read, counted, cut, cut_fixed, mark_in, with_rest}
use Rattle.x86_forms.proofs.Cuts.{bind_some, test_some, rest_some, cut_takes, fixed_some, byte_front}
use Rattle.x86_forms.proofs.TableLemmas.{covers_parts, covers_from, row_found, any_reg}
use Rattle.x86_forms.proofs.PrefixLemmas.{rex_taken, escape_taken}

-- ---- what stands before the operands

record HeadOf (bytes : List ℕ) (h : Head) (rest : List ℕ) : Type 0 where
  string : bytes ≡ h.prefixes ++ (h.rex ++ (h.escape ++ (h.opcode ++ rest)))
  rex : is_rex_part h.rex ≡ true
  escape : h.escape ≡ escape_bytes (nat_eq (length h.escape) 1)
  opcode : length h.opcode ≡ 1

head_takes : (bytes : List ℕ) (x : Head × List ℕ) → read_head bytes ≡ Some x → HeadOf bytes x.0 x.1
unfolding read_head
head_takes bytes x e =
    let a = bind_some (cut (prefix_count bytes) bytes) (λ ps. cut (rex_len ps.1) ps.1 >>= (λ rex. cut (escape_len rex.1) rex.1 >>= (λ escape. cut 1 escape.1 >>= (λ opcode. Some (record { prefixes = ps.0; rex = rex.0; escape = escape.0; opcode = opcode.0 }, opcode.1))))) x e in
    let ps = a.0 in
    let b = bind_some (cut (rex_len ps.1) ps.1) (λ rex. cut (escape_len rex.1) rex.1 >>= (λ escape. cut 1 escape.1 >>= (λ opcode. Some (record { prefixes = ps.0; rex = rex.0; escape = escape.0; opcode = opcode.0 }, opcode.1)))) x a.2 in
    let rex = b.0 in
    let c = bind_some (cut (escape_len rex.1) rex.1) (λ escape. cut 1 escape.1 >>= (λ opcode. Some (record { prefixes = ps.0; rex = rex.0; escape = escape.0; opcode = opcode.0 }, opcode.1))) x b.2 in
    let escape = c.0 in
    let d = bind_some (cut 1 escape.1) (λ opcode. Some (record { prefixes = ps.0; rex = rex.0; escape = escape.0; opcode = opcode.0 }, opcode.1)) x c.2 in
    let opcode = d.0 in
    let p = cut_takes (prefix_count bytes) bytes ps a.1 in
    let r = cut_takes (rex_len ps.1) ps.1 rex b.1 in
    let s = cut_takes (escape_len rex.1) rex.1 escape c.1 in
    let o = cut_takes 1 escape.1 opcode d.1 in
    let y : Head × List ℕ = (record { prefixes = ps.0; rex = rex.0; escape = escape.0; opcode = opcode.0 }, opcode.1) in
    let is : y ≡ x = same_Some y x d.2 in
    let P : Head × List ℕ → Type 0 = λ v. HeadOf bytes v.0 v.1 in
    subst P is (record {
      string = p.0 ∙ ap (λ (t : List ℕ). ps.0 ++ t) (r.0 ∙ ap (λ (t : List ℕ). rex.0 ++ t) (s.0 ∙ ap (λ (t : List ℕ). escape.0 ++ t) o.0));
      rex = rex_taken rex.0 rex.1 (r.1 ∙ ap rex_len r.0);
      escape = escape_taken escape.0 escape.1 (s.1 ∙ ap escape_len s.0);
      opcode = o.1;
    })

-- ---- the operands

record OperandsOf (h : Head) (row : Row) (w : Width) (bytes : List ℕ) (p : Parts) (rest : List ℕ) : Type 0 where
  string : bytes ≡ p.modrm ++ (p.sib ++ (p.disp ++ (p.imm ++ rest)))
  head : p ≡ with_operands h p.modrm p.sib p.disp p.imm
  modrm : length p.modrm ≡ modrm_len row.modrm
  fixed : is_asked row.fixed (byte p.modrm) ≡ true
  sib : length p.sib ≡ sib_len row.modrm (byte p.modrm)
  disp : length p.disp ≡ disp_size row.modrm (byte p.modrm) (byte p.sib)
  imm : length p.imm ≡ tail_len row.tail w

operands_take : (h : Head) (row : Row) (w : Width) (bytes : List ℕ) (x : Parts × List ℕ) → read_operands h row w bytes ≡ Some x → OperandsOf h row w bytes x.0 x.1
unfolding read_operands
operands_take h row w bytes x e =
    let a = bind_some (cut_fixed row.fixed (cut (modrm_len row.modrm) bytes)) (λ modrm. cut (sib_len row.modrm (byte modrm.0)) modrm.1 >>= (λ sib. cut (disp_size row.modrm (byte modrm.0) (byte sib.0)) sib.1 >>= (λ disp. cut (tail_len row.tail w) disp.1 >>= (λ imm. Some (with_operands h modrm.0 sib.0 disp.0 imm.0, imm.1))))) x e in
    let modrm = a.0 in
    let b = bind_some (cut (sib_len row.modrm (byte modrm.0)) modrm.1) (λ sib. cut (disp_size row.modrm (byte modrm.0) (byte sib.0)) sib.1 >>= (λ disp. cut (tail_len row.tail w) disp.1 >>= (λ imm. Some (with_operands h modrm.0 sib.0 disp.0 imm.0, imm.1)))) x a.2 in
    let sib = b.0 in
    let c = bind_some (cut (disp_size row.modrm (byte modrm.0) (byte sib.0)) sib.1) (λ disp. cut (tail_len row.tail w) disp.1 >>= (λ imm. Some (with_operands h modrm.0 sib.0 disp.0 imm.0, imm.1))) x b.2 in
    let disp = c.0 in
    let d = bind_some (cut (tail_len row.tail w) disp.1) (λ imm. Some (with_operands h modrm.0 sib.0 disp.0 imm.0, imm.1)) x c.2 in
    let imm = d.0 in
    let f = fixed_some row.fixed (cut (modrm_len row.modrm) bytes) modrm a.1 in
    let m = cut_takes (modrm_len row.modrm) bytes modrm f.0 in
    let s = cut_takes (sib_len row.modrm (byte modrm.0)) modrm.1 sib b.1 in
    let t = cut_takes (disp_size row.modrm (byte modrm.0) (byte sib.0)) sib.1 disp c.1 in
    let i = cut_takes (tail_len row.tail w) disp.1 imm d.1 in
    let y : Parts × List ℕ = (with_operands h modrm.0 sib.0 disp.0 imm.0, imm.1) in
    let is : y ≡ x = same_Some y x d.2 in
    let P : Parts × List ℕ → Type 0 = λ v. OperandsOf h row w bytes v.0 v.1 in
    subst P is (record {
      string = m.0 ∙ ap (λ (v : List ℕ). modrm.0 ++ v) (s.0 ∙ ap (λ (v : List ℕ). sib.0 ++ v) (t.0 ∙ ap (λ (v : List ℕ). disp.0 ++ v) i.0));
      head = refl;
      modrm = m.1;
      fixed = f.1;
      sib = s.1;
      disp = t.1;
      imm = i.1;
    })

-- ---- the whole

first_byte : (m : Bool) (modrm t : List ℕ) → length modrm ≡ modrm_len m → m ≡ true → byte (modrm ++ t) ≡ byte modrm
first_byte true modrm t len h = byte_front modrm t len
first_byte false modrm t len h = absurd cc

same_is : (e l : Bool) → same e l ≡ true → e ≡ l
same_is true l h = sym h
same_is false true h = absurd cc
same_is false false h = refl

-- the parts, and what follows them
record InstrOf (bytes : List ℕ) (i : Instr) (rest : List ℕ) : Type 0 where
  parts : Parts
  width : Width
  number : ℕ
  line : Line
  listed : slice_get table number ≡ Some line
  form : HasForm line width parts
  means : meaning line.row width parts ≡ Some i
  string : bytes ≡ bytes_of parts ++ rest

built : (bytes : List ℕ) (i : Instr) (rest : List ℕ) (h : Head) (after : List ℕ) (l : Line) (k : ℕ) (w : Width) (p : Parts) → HeadOf bytes h after → slice_get table k ≡ Some l → covers (mark_in h.prefixes) (rex_b (byte h.rex)) (nat_eq (length h.escape) 1) (byte h.opcode) (middle_field (byte after)) l ≡ true → allows l.row.prefixes h.prefixes ≡ true → allows_rex l.row.rex h.rex ≡ true → width_of l.row.size (is_narrowed h.prefixes) (rex_w (byte h.rex)) ≡ Some w → OperandsOf h l.row w after p rest → meaning l.row w p ≡ Some i → InstrOf bytes i rest
built bytes i rest h after l k w p head at c pre rex width ops means =
    let q = with_operands h p.modrm p.sib p.disp p.imm in
    let parts = covers_parts _ _ _ _ _ l c in
    let e : nat_eq (length h.escape) 1 ≡ l.escape = same_is _ _ parts.mapped in
    let reg : l.row.modrm ≡ true → middle_field (byte after) ≡ middle_field (byte p.modrm) = λ m. ap middle_field (ap byte ops.string ∙ first_byte l.row.modrm p.modrm _ ops.modrm m) in
    let c1 = covers_from (mark_in h.prefixes) (mark_of l.row.prefixes) (rex_b (byte h.rex)) (nat_eq (length h.escape) 1) (byte h.opcode) (middle_field (byte after)) (middle_field (byte p.modrm)) l parts.marked (any_reg k l _ _ at reg) c in
    let c2 = subst (λ v. covers (mark_of l.row.prefixes) (rex_b (byte h.rex)) v (byte h.opcode) (middle_field (byte p.modrm)) l ≡ true) e c1 in
    record {
      parts = q;
      width = w;
      number = k;
      line = l;
      listed = at;
      form = record {
        prefixes = pre;
        rex = head.rex;
        asked = rex;
        width = width;
        escape = head.escape ∙ ap escape_bytes e;
        opcode = head.opcode;
        covered = c2;
        modrm = ops.modrm;
        fixed = ops.fixed;
        sib = ops.sib;
        disp = ops.disp;
        imm = ops.imm;
      };
      means = subst (λ v. meaning l.row w v ≡ Some i) ops.head means;
      string = head.string ∙ ap (λ (t : List ℕ). h.prefixes ++ (h.rex ++ (h.escape ++ (h.opcode ++ t)))) ops.string ∙ simp append_assoc;
    }

instr_takes : (bytes : List ℕ) (x : Instr × List ℕ) → read_instr bytes ≡ Some x → InstrOf bytes x.0 x.1
unfolding read_instr row_at width_at
instr_takes bytes x e =
    let a = bind_some (read_head bytes) (λ h. row_at h.0 h.1 >>= (λ row. width_at h.0 row >>= (λ w. read_operands h.0 row w h.1 >>= (λ p. with_rest p.1 (meaning row w p.0))))) x e in
    let h = a.0 in
    let b = bind_some (row_at h.0 h.1) (λ row. width_at h.0 row >>= (λ w. read_operands h.0 row w h.1 >>= (λ p. with_rest p.1 (meaning row w p.0)))) x a.2 in
    let row = b.0 in
    let c = bind_some (width_at h.0 row) (λ w. read_operands h.0 row w h.1 >>= (λ p. with_rest p.1 (meaning row w p.0))) x b.2 in
    let w = c.0 in
    let d = bind_some (read_operands h.0 row w h.1) (λ p. with_rest p.1 (meaning row w p.0)) x c.2 in
    let p = d.0 in
    let r = rest_some p.1 (meaning row w p.0) x d.2 in
    let f = row_found (mark_in h.0.prefixes) (rex_b (byte h.0.rex)) (nat_eq (length h.0.escape) 1) (byte h.0.opcode) (middle_field (byte h.1)) row b.1 in
    let t = test_some (allows row.prefixes h.0.prefixes && allows_rex row.rex h.0.rex) (width_of row.size (is_narrowed h.0.prefixes) (rex_w (byte h.0.rex))) w c.1 in
    let g = and_parts (allows row.prefixes h.0.prefixes) (allows_rex row.rex h.0.rex) t.0 in
    let back = sym f.is in
    let ops = operands_take h.0 row w h.1 p d.1 in
    let ops' = subst (λ v. OperandsOf h.0 v w h.1 p.0 p.1) back ops in
    let whole = built bytes x.0 p.1 h.0 h.1 f.line f.number w p.0 (head_takes bytes h a.1) f.listed f.covered (subst (λ v. allows v.prefixes h.0.prefixes ≡ true) back g.0) (subst (λ v. allows_rex v.rex h.0.rex ≡ true) back g.1) (subst (λ v. width_of v.size (is_narrowed h.0.prefixes) (rex_w (byte h.0.rex)) ≡ Some w) back t.1) ops' (subst (λ v. meaning v w p.0 ≡ Some x.0) back r.0) in
    subst (λ v. InstrOf bytes x.0 v) r.1 whole

bytes_front : (n : ℕ) (s : List ℕ) → are_bytes s ≡ true → are_bytes (take n s) ≡ true
bytes_front n s h =
    let e = list_all-append (λ b. nat_lt b 256) (take n s) (drop n s) in
    let whole : are_bytes (take n s ++ drop n s) ≡ true = rw (take-append-drop n s) h in
    (and_parts (are_bytes (take n s)) (are_bytes (drop n s)) (sym e ∙ whole)).0

counted_some : (k : ℕ) (o : Option (Instr × List ℕ)) (i : Instr) (n : ℕ) → counted k o ≡ Some (i, n) → (x : Instr × List ℕ) × (o ≡ Some x) × (x.0 ≡ i) × (k - length x.1 ≡ n)
counted_some k None i n e = absurd cc
counted_some k (Some x) i n e = let p = some_pair_parts x.0 i (k - length x.1) n e in (x, refl, p.0, p.1)

-- What is read is spelled by as many numbers as the reading says, where those are bytes, whatever stands behind them.
pub front_spelled : (bytes : List ℕ) (i : Instr) (n : ℕ) → are_bytes (take n bytes) ≡ true → read bytes ≡ Some (i, n) → Spells i (take n bytes)
unfolding read
front_spelled bytes i n all e =
    let c = counted_some (length (take 15 bytes)) (read_instr (take 15 bytes)) i n e in
    let x = c.0 in
    let t = instr_takes (take 15 bytes) x c.1 in
    let s = bytes_of t.parts in
    let len : length s ≡ n = omega (arith, ap length t.string, length-append s x.1, c.3) in
    let short : n ≤ 15 = omega (arith, ap length t.string, length-append s x.1, c.3, length-take 15 bytes) in
    let whole : bytes ≡ s ++ (x.1 ++ drop 15 bytes) = sym (take-append-drop 15 bytes) ∙ ap (λ (v : List ℕ). v ++ drop 15 bytes) t.string ∙ append_assoc s x.1 (drop 15 bytes) in
    let front : take n bytes ≡ s = ap (take n) whole ∙ take_at s (x.1 ++ drop 15 bytes) n len in
    record {
      parts = t.parts;
      width = t.width;
      number = t.number;
      line = t.line;
      listed = t.listed;
      form = t.form;
      means = subst (λ v. meaning t.line.row t.width t.parts ≡ Some v) c.2 t.means;
      string = front;
      bytes = all;
      short = omega (arith, ap length front, len, short);
    }

-- What is read from bytes is spelled by as many of them as the reading says.
pub sound : (bytes : List ℕ) (i : Instr) (n : ℕ) → are_bytes bytes ≡ true → read bytes ≡ Some (i, n) → Spells i (take n bytes)
sound bytes i n all e = front_spelled bytes i n (bytes_front n bytes all) e
