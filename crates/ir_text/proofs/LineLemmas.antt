-- Lines and pieces are read exactly.
use Rattle.std.proofs.Common.{◌≡◌, ℕ, ◌+◌, ◌*◌, ◌/◌, ◌%◌, ◌^◌, ◌<◌, Bool, true, false, List, [], ◌∷◌, ◌++◌, Option, Some, None, refl, sym, ap, subst, append_assoc, arith, codes}
use Rattle.std.specs.Fmt.{digits, digit_glyph}
use Rattle.std.proofs.Math.Nat.{mod-lt}
use Rattle.std.proofs.lemmas.Nat.{div-mul-add, div-add-mod'}
use Rattle.ir_syntax.specs.declared.cond.Flag.{Flag}
use Rattle.ir_syntax.specs.declared.line.Family.{Family}
use Rattle.ir_syntax.specs.declared.line.LockOp.{LockOp}
use Rattle.ir_syntax.specs.declared.line.Op.{Op}
use Rattle.ir_syntax.specs.declared.line.Op.TheVariants.{Get, GetHigh, Put, PutHigh, Const, Ea, Calc, FlagOf, FlagZero, Cond as CondOp, Pick, Zext, Sext, Cut}
use Rattle.ir_syntax.specs.declared.line.PartEnd.{PartEnd}
use Rattle.ir_syntax.specs.declared.line.PartEnd.TheVariants.{Tick, Load, Store, StoreGo, Fence, Locked, LockedCmpxchg, Divide, Go, Branch, BadCode}
use Rattle.ir_syntax.specs.declared.line.Target.{Target}
use Rattle.ir_syntax.specs.declared.line.Target.TheVariants.{Place, Temp}
use Rattle.ir_syntax.specs.declared.width.Width.{Width}
use Rattle.ir_syntax.specs.declared.width.Width.TheVariants.{W8, W16, W32, W64}
use Rattle.ir_syntax.specs.Width.{bits_of}
use Rattle.ir_text.specs.declared.pieces.Head.{Head}
use Rattle.ir_text.specs.declared.pieces.Head.TheVariants as head
use Rattle.ir_text.specs.declared.pieces.Item.{Item}
use Rattle.ir_text.specs.declared.pieces.Item.TheVariants as item
use Rattle.ir_text.specs.declared.pieces.State.{State}
use Rattle.ir_text.specs.declared.pieces.State.TheVariants as state
use Rattle.ir_text.specs.Text.{op_text, end_text, has_two, HasOp, HasEnd, IsTarget, byte_text, spaced, dotted, temp_name, family_name, width_name, flag_name}
use Rattle.ir_text.specs.Reading.{digit_of}
use Rattle.ir_text.specs.Row.{reading, Spells, SpellsFrom, number, number_digits, IsDigit, digit_text}
use Rattle.ir_text.specs.Grammar.{top, Any, HasResult, HasFlags, IsLineOfPart, head_name, scale, get_operands, put_operands, calc_operands, flag_operands, flag_value, target_row, locked_operands, head_row, IsMaybeTemp, target_front_name, register_part_name, lock_op_name, flag_family_name}
use Rattle.ir_text.specs.Items.{next, IsItem, byte_row, first_code, more_code, item_row}
use Rattle.ir_text.proofs.Exact.{Exact, IsExact, exact_as}
use Rattle.ir_text.proofs.RowLemmas.{Good, row_exact, from_spells, to_spells, Each, each_of, each_weaker}
use Rattle.ir_text.proofs.NumberLemmas.{number_exact, after_prefix_exact, digit_exact, digit_unless_exact}
use Rattle.ir_text.proofs.TableLemmas.{widths_exact_sp, temps_exact_sp, temps_exact_nl, registers_exact_sp, registers_exact_nl, bases_exact_sp, flags_exact_sp, conds_exact_sp, conds_exact_nl, result_families_exact_dot, flag_families_exact, lock_ops_exact, signs_exact_dot, parts_of_register_exact, targets_exact, heads_exact, heads_or_end_exact, scales_exact_sp, one_scale_exact_sp, zexts_exact_sp, sexts_exact_sp, cuts_exact_sp}

-- ---- the fields of each row are exact

const_exact : (w : Width) → IsExact (number (2 ^ bits_of w) 10)
unfolding digit_of
const_exact W8 = number_exact (2 ^ 8) 10 (omega arith) (omega arith) refl
const_exact W16 = number_exact (2 ^ 16) 10 (omega arith) (omega arith) refl
const_exact W32 = number_exact (2 ^ 32) 10 (omega arith) (omega arith) refl
const_exact W64 = number_exact (2 ^ 64) 10 (omega arith) (omega arith) refl

top_exact_nl : IsExact (number top 10)
unfolding digit_of
top_exact_nl = number_exact (2 ^ 64) 10 (omega arith) (omega arith) refl

top_exact_sp : IsExact (number top 32)
unfolding digit_of
top_exact_sp = number_exact (2 ^ 64) 32 (omega arith) (omega arith) refl

place_exact : IsExact (number_digits top 10)
unfolding digit_of
place_exact = after_prefix_exact (2 ^ 64) 10 (omega arith) (omega arith) refl

scale_exact : (i : Option ℕ) → IsExact (scale i)
scale_exact None = one_scale_exact_sp
scale_exact (Some r) = scales_exact_sp

good_get : (o : Option Width) → Good (get_operands o)
good_get None = (temps_exact_sp, λ t ht. registers_exact_nl)
good_get (Some w) = (temps_exact_sp, λ t ht. registers_exact_nl)

good_put : (o : Option Width) → Good (put_operands o)
good_put None = (registers_exact_sp, λ r hr. temps_exact_nl)
good_put (Some w) = (registers_exact_sp, λ r hr. temps_exact_nl)

good_calc : (two : Bool) (f : Family) (w : Width) (t : ℕ) → Good (calc_operands two f w t)
good_calc true f w t = (temps_exact_sp, λ a ha. temps_exact_nl)
good_calc false f w t = temps_exact_nl

good_flag : (two : Bool) (g : Flag) (f : Family) (w : Width) → Good (flag_operands two g f w)
good_flag true g f w = (temps_exact_sp, λ a ha. temps_exact_nl)
good_flag false g f w = temps_exact_nl

good_value : (g : Flag) (o : Option Family) → Good (flag_value g o)
good_value g None = tt
good_value g (Some f) = (widths_exact_sp, λ w hw. good_flag (has_two f) g f w)

good_target : (make : Target → Item) (o : Option ℕ) → Good (target_row make o)
good_target make None = place_exact
good_target make (Some t) = tt

good_locked : (o : Option LockOp) → Good (locked_operands o)
good_locked None = (widths_exact_sp, λ w hw. (temps_exact_sp, λ t ht. (temps_exact_sp, λ a ha. (temps_exact_sp, λ c hc. temps_exact_nl))))
good_locked (Some k) = (widths_exact_sp, λ w hw. (temps_exact_sp, λ t ht. (temps_exact_sp, λ a ha. temps_exact_nl)))

good_head : (h : Head) → Good (head_row h)
good_head head.Get = (parts_of_register_exact, λ o ho. good_get o)
good_head head.Put = (parts_of_register_exact, λ o ho. good_put o)
good_head head.Const = (widths_exact_sp, λ w hw. (temps_exact_sp, λ t ht. const_exact w))
good_head head.Ea = (temps_exact_sp, λ t ht. (bases_exact_sp, λ b hb. (bases_exact_sp, λ i hi. (scale_exact i, λ s hs. top_exact_nl))))
good_head head.Calc = (result_families_exact_dot, λ f hf. (widths_exact_sp, λ w hw. (temps_exact_sp, λ t ht. good_calc (has_two f) f w t)))
good_head head.Flag = (flags_exact_sp, λ g hg. (flag_families_exact, λ o ho. good_value g o))
good_head head.Cond = (temps_exact_sp, λ t ht. conds_exact_nl)
good_head head.Pick = (widths_exact_sp, λ w hw. (temps_exact_sp, λ t ht. (temps_exact_sp, λ c hc. (temps_exact_sp, λ a ha. temps_exact_nl))))
good_head head.Zext = (zexts_exact_sp, λ x hx. (temps_exact_sp, λ t ht. temps_exact_nl))
good_head head.Sext = (sexts_exact_sp, λ x hx. (temps_exact_sp, λ t ht. temps_exact_nl))
good_head head.Cut = (cuts_exact_sp, λ x hx. (temps_exact_sp, λ t ht. temps_exact_nl))
good_head head.Tick = tt
good_head head.Load = (widths_exact_sp, λ w hw. (temps_exact_sp, λ t ht. temps_exact_nl))
good_head head.Store = (widths_exact_sp, λ w hw. (temps_exact_sp, λ a ha. temps_exact_nl))
good_head head.StoreGo = (temps_exact_sp, λ a ha. (temps_exact_sp, λ t ht. (targets_exact, λ o ho. good_target (λ to. item.Part (StoreGo a t to)) o)))
good_head head.Fence = tt
good_head head.Locked = (lock_ops_exact, λ o ho. good_locked o)
good_head head.Divide = (signs_exact_dot, λ g hg. (widths_exact_sp, λ w hw. temps_exact_nl))
good_head head.Go = (targets_exact, λ o ho. good_target (λ to. item.Part (Go to)) o)
good_head head.Branch = (conds_exact_sp, λ c hc. (top_exact_sp, λ a ha. top_exact_nl))
good_head head.BadCode = tt
good_head head.End = tt

-- ---- what a row spells is a line

abbrev IsLine : Item → List ℕ → Type 0
IsLine = IsItem state.Inside

an_op : (o : Op) (s : List ℕ) → HasOp o → op_text o ≡ s → IsLine (item.Op o) s
an_op o s h e = (h, (state.Inside, refl), e)

an_end : (p : PartEnd) (s : List ℕ) → HasEnd p → end_text p ≡ s → IsLine (item.Part p) s
an_end p s h e = (h, (state.After, refl), e)

each_get : (o : Option Width) → Any o → Each (get_operands o) (codes "get." ++ register_part_name o) IsLine
unfolding op_text
each_get None h = λ t ht r hr. an_op (GetHigh t r) _ (ht, hr) refl
each_get (Some w) h = λ t ht r hr. an_op (Get w t r) _ (ht, hr) refl

each_put : (o : Option Width) → Any o → Each (put_operands o) (codes "put." ++ register_part_name o) IsLine
unfolding op_text
each_put None h = λ r hr t ht. an_op (PutHigh r t) _ (hr, ht) refl
each_put (Some w) h = λ r hr t ht. an_op (Put w r t) _ (hr, ht) refl

abbrev calc_front : Family → Width → ℕ → List ℕ
calc_front f w t = codes "calc." ++ dotted (family_name f) ++ spaced (width_name w) ++ spaced (temp_name t)

each_calc : (f : Family) (two : Bool) → has_two f ≡ two → HasResult f → (w : Width) (t : ℕ) → t < 8 → Each (calc_operands two f w t) (calc_front f w t) IsLine
unfolding op_text
each_calc f true e hf w t ht = λ a ha b hb. an_op (Calc f w t a (Some b)) _ (hf, e, ht, ha, hb) refl
each_calc f false e hf w t ht = λ a ha. an_op (Calc f w t a None) _ (hf, e, ht, ha) refl

abbrev flag_front : Flag → Family → Width → List ℕ
flag_front g f w = codes "flag " ++ spaced (flag_name g) ++ dotted (family_name f) ++ spaced (width_name w)

each_flag : (g : Flag) (f : Family) (two : Bool) → has_two f ≡ two → HasFlags (Some f) → (w : Width) → Each (flag_operands two g f w) (flag_front g f w) IsLine
unfolding op_text
each_flag g f true e hf w = λ a ha b hb. an_op (FlagOf g f w a (Some b)) _ (hf, e, ha, hb) refl
each_flag g f false e hf w = λ a ha. an_op (FlagOf g f w a None) _ (hf, e, ha) refl

each_value : (g : Flag) (o : Option Family) → HasFlags o → Each (flag_value g o) (codes "flag " ++ spaced (flag_name g) ++ flag_family_name o) IsLine
unfolding op_text
each_value g None h = an_op (FlagZero g) _ tt refl
each_value g (Some f) h = λ w hw. each_flag g f (has_two f) refl h w

each_storego : (a t : ℕ) → a < 8 → t < 8 → (o : Option ℕ) → IsMaybeTemp o
    → Each (target_row (λ to. item.Part (StoreGo a t to)) o) (codes "storego.64 " ++ spaced (temp_name a) ++ spaced (temp_name t) ++ target_front_name o) IsLine
unfolding end_text
each_storego a t ha ht None h = λ n hn.
    an_end (StoreGo a t (Place n)) _ (ha, ht, hn)
    (sym (append_assoc (codes "storego.64 " ++ spaced (temp_name a) ++ spaced (temp_name t)) (codes "0x") (digits 16 false n ++ 10 ∷ [])))
each_storego a t ha ht (Some x) h = an_end (StoreGo a t (Temp x)) _ (ha, ht, h) refl

each_go : (o : Option ℕ) → IsMaybeTemp o → Each (target_row (λ to. item.Part (Go to)) o) (codes "go " ++ target_front_name o) IsLine
unfolding end_text
each_go None h = λ n hn. an_end (Go (Place n)) _ hn refl
each_go (Some x) h = an_end (Go (Temp x)) _ h refl

each_locked : (o : Option LockOp) → Any o → Each (locked_operands o) (codes "locked." ++ lock_op_name o) IsLine
unfolding end_text
each_locked None h = λ w hw t ht a ha c hc s hs. an_end (LockedCmpxchg w t a c s) _ (ht, ha, hc, hs) refl
each_locked (Some k) h = λ w hw t ht a ha s hs. an_end (Locked k w t a s) _ (ht, ha, hs) refl

each_head : (h : Head) → IsLineOfPart h → Each (head_row h) (head_name h) IsLine
unfolding op_text end_text
each_head head.Get x = each_get
each_head head.Put x = each_put
each_head head.Const x = λ w hw t ht n hn. an_op (Const w t n) _ (ht, hn) refl
each_head head.Ea x = λ t ht b hb i hi s hs n hn. an_op (Ea t b i s n) _ (ht, hb, hi, hs, hn) refl
each_head head.Calc x = λ f hf w hw t ht. each_calc f (has_two f) refl hf w t ht
each_head head.Flag x = λ g hg o ho. each_value g o ho
each_head head.Cond x = λ t ht c hc. an_op (CondOp t c) _ ht refl
each_head head.Pick x = λ w hw t ht c hc a ha b hb. an_op (Pick w t c a b) _ (ht, hc, ha, hb) refl
each_head head.Zext x = λ v hv t ht a ha. an_op (Zext v.0 v.1 t a) _ (hv.0, hv.1, ht, ha) refl
each_head head.Sext x = λ v hv t ht a ha. an_op (Sext v.0 v.1 t a) _ (hv.0, hv.1, ht, ha) refl
each_head head.Cut x = λ v hv t ht a ha. an_op (Cut v.0 v.1 t a) _ (hv.0, hv.1, ht, ha) refl
each_head head.Tick x = an_end Tick _ tt refl
each_head head.Load x = λ w hw t ht a ha. an_end (Load w t a) _ (ht, ha) refl
each_head head.Store x = λ w hw a ha t ht. an_end (Store w a t) _ (ha, ht) refl
each_head head.StoreGo x = λ a ha t ht o ho. each_storego a t ha ht o ho
each_head head.Fence x = an_end Fence _ tt refl
each_head head.Locked x = each_locked
each_head head.Divide x = λ g hg w hw t ht. an_end (Divide g w t) _ ht refl
each_head head.Go x = each_go
each_head head.Branch x = λ c hc a ha b hb. an_end (Branch c a b) _ (ha, hb) refl
each_head head.BadCode x = an_end BadCode _ tt refl
each_head head.End x = absurd x

-- ---- and each line is spelled by a row

abbrev LineSpelled : Item → List ℕ → Type 0
LineSpelled i s = (h : Head) × IsLineOfPart h × SpellsFrom (head_row h) i (head_name h) s

spelled_op : (o : Op) → HasOp o → LineSpelled (item.Op o) (op_text o)
unfolding op_text
spelled_op (Get w t r) h = (head.Get, tt, (Some w, tt, (t, h.0, (r, h.1, refl, refl))))
spelled_op (GetHigh t r) h = (head.Get, tt, (None, tt, (t, h.0, (r, h.1, refl, refl))))
spelled_op (Put w r t) h = (head.Put, tt, (Some w, tt, (r, h.0, (t, h.1, refl, refl))))
spelled_op (PutHigh r t) h = (head.Put, tt, (None, tt, (r, h.0, (t, h.1, refl, refl))))
spelled_op (Const w t n) h = (head.Const, tt, (w, tt, (t, h.0, (n, h.1, refl, refl))))
spelled_op (Ea t b i s n) h = (head.Ea, tt, (t, h.0, (b, h.1, (i, h.2, (s, h.3, (n, h.4, refl, refl))))))
spelled_op (Calc f w t a (Some b)) h = (head.Calc, tt, (f, h.0, (w, tt, (t, h.2, subst (λ (two : Bool). SpellsFrom (calc_operands two f w t) (item.Op (Calc f w t a (Some b))) (calc_front f w t) (op_text (Calc f w t a (Some b)))) (sym h.1) (a, h.3, (b, h.4, refl, refl))))))
spelled_op (Calc f w t a None) h = (head.Calc, tt, (f, h.0, (w, tt, (t, h.2, subst (λ (two : Bool). SpellsFrom (calc_operands two f w t) (item.Op (Calc f w t a None)) (calc_front f w t) (op_text (Calc f w t a None))) (sym h.1) (a, h.3, refl, refl)))))
spelled_op (FlagOf g f w a (Some b)) h = (head.Flag, tt, (g, tt, (Some f, h.0, (w, tt, subst (λ (two : Bool). SpellsFrom (flag_operands two g f w) (item.Op (FlagOf g f w a (Some b))) (flag_front g f w) (op_text (FlagOf g f w a (Some b)))) (sym h.1) (a, h.2, (b, h.3, refl, refl))))))
spelled_op (FlagOf g f w a None) h = (head.Flag, tt, (g, tt, (Some f, h.0, (w, tt, subst (λ (two : Bool). SpellsFrom (flag_operands two g f w) (item.Op (FlagOf g f w a None)) (flag_front g f w) (op_text (FlagOf g f w a None))) (sym h.1) (a, h.2, refl, refl)))))
spelled_op (FlagZero g) h = (head.Flag, tt, (g, tt, (None, tt, (refl, refl))))
spelled_op (CondOp t c) h = (head.Cond, tt, (t, h, (c, tt, refl, refl)))
spelled_op (Pick w t c a b) h = (head.Pick, tt, (w, tt, (t, h.0, (c, h.1, (a, h.2, (b, h.3, refl, refl))))))
spelled_op (Zext v w t a) h = (head.Zext, tt, ((v, w), (h.0, h.1), (t, h.2, (a, h.3, refl, refl))))
spelled_op (Sext v w t a) h = (head.Sext, tt, ((v, w), (h.0, h.1), (t, h.2, (a, h.3, refl, refl))))
spelled_op (Cut v w t a) h = (head.Cut, tt, ((v, w), (h.0, h.1), (t, h.2, (a, h.3, refl, refl))))

spelled_storego : (a t : ℕ) (to : Target) → a < 8 → t < 8 → IsTarget to → LineSpelled (item.Part (StoreGo a t to)) (end_text (StoreGo a t to))
unfolding end_text
spelled_storego a t (Place n) ha ht h =
    (head.StoreGo, tt, (a, ha, (t, ht, (None, tt, (n, h, refl, append_assoc (codes "storego.64 " ++ spaced (temp_name a) ++ spaced (temp_name t)) (codes "0x") (digits 16 false n ++ 10 ∷ []))))))
spelled_storego a t (Temp x) ha ht h = (head.StoreGo, tt, (a, ha, (t, ht, (Some x, h, (refl, refl)))))

spelled_go : (to : Target) → IsTarget to → LineSpelled (item.Part (Go to)) (end_text (Go to))
unfolding end_text
spelled_go (Place n) h = (head.Go, tt, (None, tt, (n, h, refl, refl)))
spelled_go (Temp x) h = (head.Go, tt, (Some x, h, (refl, refl)))

spelled_end : (e : PartEnd) → HasEnd e → LineSpelled (item.Part e) (end_text e)
unfolding end_text
spelled_end Tick h = (head.Tick, tt, (refl, refl))
spelled_end (Load w t a) h = (head.Load, tt, (w, tt, (t, h.0, (a, h.1, refl, refl))))
spelled_end (Store w a t) h = (head.Store, tt, (w, tt, (a, h.0, (t, h.1, refl, refl))))
spelled_end (StoreGo a t to) h = spelled_storego a t to h.0 h.1 h.2
spelled_end Fence h = (head.Fence, tt, (refl, refl))
spelled_end (Locked k w t a s) h = (head.Locked, tt, (Some k, tt, (w, tt, (t, h.0, (a, h.1, (s, h.2, refl, refl))))))
spelled_end (LockedCmpxchg w t a c s) h = (head.Locked, tt, (None, tt, (w, tt, (t, h.0, (a, h.1, (c, h.2, (s, h.3, refl, refl)))))))
spelled_end (Divide g w t) h = (head.Divide, tt, (g, tt, (w, tt, (t, h, refl, refl))))
spelled_end (Go to) h = spelled_go to h
spelled_end (Branch c a b) h = (head.Branch, tt, (c, tt, (a, h.0, (b, h.1, refl, refl))))
spelled_end BadCode h = (head.BadCode, tt, (refl, refl))

pub none_next : {C : Type 0} (p : State) → ◌≡◌ {A = Option State} None (Some p) → C
none_next p e = absurd cc

line_back : (i : Item) (s : List ℕ) → IsItem state.Inside i s → LineSpelled i s
line_back (item.Op o) s h = subst (LineSpelled (item.Op o)) h.2 (spelled_op o h.0)
line_back (item.Part e) s h = subst (LineSpelled (item.Part e)) h.2 (spelled_end e h.0)
line_back (item.Address n) s h = none_next h.1.0 h.1.1
line_back (item.Byte c) s h = none_next h.1.0 h.1.1
line_back item.CodeEnd s h = none_next h.1.0 h.1.1
line_back item.End s h = none_next h.1.0 h.1.1

-- ---- pieces, by the state

inside_after : (i : Item) (s : List ℕ) → IsItem state.Inside i s → IsItem state.After i s
inside_after (item.Op o) s h = (h.0, (state.Inside, refl), h.2)
inside_after (item.Part e) s h = (h.0, (state.After, refl), h.2)
inside_after (item.Address n) s h = none_next h.1.0 h.1.1
inside_after (item.Byte c) s h = none_next h.1.0 h.1.1
inside_after item.CodeEnd s h = none_next h.1.0 h.1.1
inside_after item.End s h = none_next h.1.0 h.1.1

each_byte : (q : State) (p : State) (d : ℕ) → d < 16 → ((c : ℕ) → next q (item.Byte c) ≡ Some p) → Each (byte_row d) (digit_glyph false d ∷ []) (IsItem q)
each_byte q p d hd step = λ e he.
    let front : (d * 16 + e) / 16 ≡ d = div-mul-add d 16 e he in
    let last : (d * 16 + e) % 16 ≡ e = omega (arith, div-add-mod' (d * 16 + e) 16, ap (λ (x : ℕ). x * 16) front) in
    (omega arith, (p, step (d * 16 + e)), λ i. digit_glyph false (front i) ∷ digit_glyph false (last i) ∷ [])

each_first : (o : Option ℕ) → IsDigit o → Each (first_code o) (digit_text 45 o) (IsItem state.Code)
each_first None h = (tt, (state.Inside, refl), refl)
each_first (Some d) h = each_byte state.Code state.InCode d h (λ c. refl)

each_more : (o : Option ℕ) → IsDigit o → Each (more_code o) (digit_text 10 o) (IsItem state.InCode)
each_more None h = (tt, (state.Inside, refl), refl)
each_more (Some d) h = each_byte state.InCode state.InCode d h (λ c. refl)

each_after : (h : Head) → Any h → Each (head_row h) (head_name h) (IsItem state.After)
each_after head.End x = (tt, (state.Between, refl), refl)
each_after h x = each_weaker (head_row h) (head_name h) (IsItem state.Inside) (IsItem state.After) inside_after (each_head h tt)

-- what each row of a state spells is a piece
to_item : (q : State) (i : Item) (s : List ℕ) → SpellsFrom (item_row q) i [] s → IsItem q i s
to_item state.Between i s h = each_of (item_row state.Between) (IsItem state.Between) i [] s (λ n hn. (hn, (state.Code, refl), refl)) h
to_item state.Code i s h = each_of (item_row state.Code) (IsItem state.Code) i [] s each_first h
to_item state.InCode i s h = each_of (item_row state.InCode) (IsItem state.InCode) i [] s each_more h
to_item state.Inside i s h = each_of (item_row state.Inside) (IsItem state.Inside) i [] s each_head h
to_item state.After i s h = each_of (item_row state.After) (IsItem state.After) i [] s each_after h

-- and each piece is spelled by it
from_between : (i : Item) (s : List ℕ) → IsItem state.Between i s → SpellsFrom (item_row state.Between) i [] s
from_between (item.Address n) s h = (n, h.0, refl, h.2)
from_between (item.Byte c) s h = none_next h.1.0 h.1.1
from_between item.CodeEnd s h = none_next h.1.0 h.1.1
from_between (item.Op o) s h = none_next h.1.0 h.1.1
from_between (item.Part e) s h = none_next h.1.0 h.1.1
from_between item.End s h = none_next h.1.0 h.1.1

byte_back : (c : ℕ) (s : List ℕ) → c < 256 → byte_text c ≡ s → SpellsFrom (byte_row (c / 16)) (item.Byte c) (digit_glyph false (c / 16) ∷ []) s
byte_back c s h e = (c % 16, mod-lt c (omega arith), ap (λ (x : ℕ). item.Byte x) (div-add-mod' c 16), e)

from_code : (i : Item) (s : List ℕ) → IsItem state.Code i s → SpellsFrom (item_row state.Code) i [] s
from_code (item.Address n) s h = none_next h.1.0 h.1.1
from_code (item.Byte c) s h = (Some (c / 16), omega (arith, h.0), byte_back c s h.0 h.2)
from_code item.CodeEnd s h = (None, tt, (refl, h.2))
from_code (item.Op o) s h = none_next h.1.0 h.1.1
from_code (item.Part e) s h = none_next h.1.0 h.1.1
from_code item.End s h = none_next h.1.0 h.1.1

from_in_code : (i : Item) (s : List ℕ) → IsItem state.InCode i s → SpellsFrom (item_row state.InCode) i [] s
from_in_code (item.Address n) s h = none_next h.1.0 h.1.1
from_in_code (item.Byte c) s h = (Some (c / 16), omega (arith, h.0), byte_back c s h.0 h.2)
from_in_code item.CodeEnd s h = (None, tt, (refl, h.2))
from_in_code (item.Op o) s h = none_next h.1.0 h.1.1
from_in_code (item.Part e) s h = none_next h.1.0 h.1.1
from_in_code item.End s h = none_next h.1.0 h.1.1

with_end : (i : Item) (s : List ℕ) → LineSpelled i s → SpellsFrom (item_row state.After) i [] s
with_end i s h = (h.0, tt, h.2)

from_after : (i : Item) (s : List ℕ) → IsItem state.After i s → SpellsFrom (item_row state.After) i [] s
from_after (item.Op o) s h = with_end (item.Op o) s (line_back (item.Op o) s (h.0, (state.Inside, refl), h.2))
from_after (item.Part e) s h = with_end (item.Part e) s (line_back (item.Part e) s (h.0, (state.After, refl), h.2))
from_after item.End s h = (head.End, tt, (refl, h.2))
from_after (item.Address n) s h = none_next h.1.0 h.1.1
from_after (item.Byte c) s h = none_next h.1.0 h.1.1
from_after item.CodeEnd s h = none_next h.1.0 h.1.1

from_item : (q : State) (i : Item) (s : List ℕ) → IsItem q i s → SpellsFrom (item_row q) i [] s
from_item state.Between = from_between
from_item state.Code = from_code
from_item state.InCode = from_in_code
from_item state.Inside = line_back
from_item state.After = from_after

good_first : (o : Option ℕ) → IsDigit o → Good (first_code o)
good_first None h = tt
good_first (Some d) h = digit_exact

good_more : (o : Option ℕ) → IsDigit o → Good (more_code o)
good_more None h = tt
good_more (Some d) h = digit_exact

good_item : (q : State) → Good (item_row q)
unfolding digit_of
good_item state.Between = top_exact_sp
good_item state.Code = (digit_unless_exact 45 refl, good_first)
good_item state.InCode = (digit_unless_exact 10 refl, good_more)
good_item state.Inside = (heads_exact, λ h x. good_head h)
good_item state.After = (heads_or_end_exact, λ h x. good_head h)

spells_item : (q : State) (i : Item) (s : List ℕ) → Spells (item_row q) i s → IsItem q i s
spells_item q i s h = to_item q i s (from_spells (item_row q) i [] s h)

item_spells : (q : State) (i : Item) (s : List ℕ) → IsItem q i s → Spells (item_row q) i s
item_spells q i s h = let t = to_spells (item_row q) i [] s (from_item q i s h) in subst (Spells (item_row q) i) t.2 t.1

-- the pieces of a state are read exactly
pub item_exact : (q : State) → Exact (reading (item_row q)) (IsItem q)
item_exact q = exact_as (reading (item_row q)) (Spells (item_row q)) (IsItem q) (spells_item q) (item_spells q) (row_exact (item_row q) (good_item q))
