-- Clap's walk over the words of a line, by the uses that are read of it.
use Rattle.std.proofs.Common.{◌≡◌, ℕ, ◌+◌, ◌<◌, Bool, true, false, ◌&&◌, ◌||◌, List, [], ◌∷◌, map, fold, length, min, Option, Some, None, option_map, is_some, codes, refl, sym, ap, ◌∙◌, arith}
use Rattle.std.specs.Prelude.{drop, encode_utf8, find, if◌then◌else◌, option_to_list, slice_get}
use Rattle.std.specs.List.{list_any}
use Rattle.std.specs.Option.{option_map_or}
use Rattle.std.specs.Str.{bytes_eq, chars}
use Rattle.std.proofs.lemmas.Slice.Eq.{bytes_eq-Decides}
use Rattle.clap.specs.Lexer.{long_of, short_of, usize_max}
use Rattle.clap.specs.Words.{Row, Rule, Shape, Text}
use Rattle.clap.specs.Walk.{Held, Outcome, Step, Waiting, Walk, after_flag, after_step, arg_by_id, arg_by_index, arg_by_long, arg_by_short, bundle_met, bundle_step, done, idle, is_pending, long_met, long_or_other, option_word, positional, pushed, reacted, settled, short_met, short_or_plain, takes_values, to_positional, trailing, used, used_by_id, walked}
use Rattle.clap.specs.Walk.{option as awaiting, plain as outcome_plain}
use Rattle.clap.specs.Faults.{bundle_fault, bundle_step_fault, flag_word_fault, flags_fault, long_fault, option_fault, positional_fault, react_fault, settle_fault, short_fault, step_fault, stray_fault, turn_fault, use_fault, walk_fault}
use Rattle.clap.specs.Kinds.{Kinds, or_else}
use Rattle.clap.specs.declared.error.kind.ErrorKind.TheVariants.{TooManyValues}
use Rattle.words_line.specs.Commands.{is_dashes}
use Rattle.words_line.specs.Lines.{Parameter, Rest, Use, flag, is_at, is_named, name_of, option, place, put, read_named, read_placed, read_word, reads}
use Rattle.words_line.proofs.Tables.{IsIn, IsTable, by_index, by_long, by_short, find_in, rule_of, shape}
use Rattle.words_line.proofs.Rows.{after, bind, bind-none, bind-unless, none_used, put_flag, put_option, put_place, unless, unless-or, used_by}

abbrev pub held : List Row → Option (Text × List Text) → Held
held rows pending = record { rows = rows; pending = pending; skip = 0 }

abbrev pub standing : Held → Waiting → ℕ → Walk
standing h waiting i = record { held = h; waiting = waiting; position = i; is_trailing = false; stopped = None }

and-false : (b : Bool) → (b && false) ≡ false
and-false true = refl
and-false false = refl

below_max : (i : ℕ) → i < 100 → min (i + 1) usize_max ≡ i + 1
below_max i h = omega (arith, h)

refused : {X Y : Type 0} (ks : Kinds) (x : X) (o : Option Y) → unless ks (Some x) ≡ None → unless ks o ≡ None
refused [] x o e = absurd cc
refused (k ∷ ks) x o e = refl

same_text : (t : Text) → bytes_eq t t ≡ true
same_text t = (bytes_eq-Decides t t).1 refl

module _ (name : Text) (parameters : List Parameter) (table : IsTable parameters) where
  abbrev s : Shape
  s = shape name parameters

  abbrev pub rules : List Rule
  rules = map rule_of parameters

  -- the rows of what is held, where what is pending is no fault
  abbrev pub settle_out : Held → Option (List Row)
  settle_out h = unless (settle_fault rules false h) (Some (settled rules h).rows)

  -- the rows at the end of a walk without a fault
  abbrev pub out : Walk → List Text → Option (List Row)
  out w words = unless (walk_fault s [] w words) (settle_out (fold (walked rules []) w words).held)

  settle_pending : (a : Parameter) → IsIn parameters a → (rows : List Row) (values : List Text) → settle_out (held rows (Some (name_of a, values))) ≡ used_by (rule_of a) values rows
  settle_pending a fit rows values =
      ap (λ (o : Option Rule). unless (option_map_or (λ x. use_fault false x values rows) o []) (Some (used_by_id o values rows))) fit.found

  -- what a word is, by whether it is `--` and by its looks
  abbrev met_by : Waiting → Bool → Option (Text × Option Text) → Text → Held → ℕ → Held × Step
  met_by waiting d l word h i = if d then (h, trailing i) else long_or_other rules waiting word l h

  abbrev turn_by : Waiting → Bool → Option (Text × Option Text) → Text → Held → ℕ → Kinds
  turn_by waiting d l word h i =
      or_else (if d then [] else flag_word_fault rules false l word h) (step_fault s i (met_by waiting d l word h i).0 (met_by waiting d l word h i).1)

  abbrev next_by : Waiting → Bool → Option (Text × Option Text) → Text → Held → ℕ → Walk
  next_by waiting d l word h i = after_step rules word (standing h waiting i) (met_by waiting d l word h i).0 (met_by waiting d l word h i).1

  out-word : (waiting : Waiting) (h : Held) (i : ℕ) (word : Text) (rest : List Text)
      → out (standing h waiting i) (word ∷ rest) ≡ unless (turn_by waiting (is_dashes word) (long_of word) word h i) (out (next_by waiting (is_dashes word) (long_of word) word h i) rest)
  unfolding walk_fault walked
  out-word idle h i word rest = unless-or (turn_fault s [] (standing h idle i) word) (walk_fault s [] (walked rules [] (standing h idle i) word) rest) (settle_out (fold (walked rules []) (standing h idle i) (word ∷ rest)).held)
  out-word (awaiting id) h i word rest = unless-or (turn_fault s [] (standing h (awaiting id) i) word) (walk_fault s [] (walked rules [] (standing h (awaiting id) i) word) rest) (settle_out (fold (walked rules []) (standing h (awaiting id) i) (word ∷ rest)).held)
  out-word positional h i word rest = unless-or (turn_fault s [] (standing h positional i) word) (walk_fault s [] (walked rules [] (standing h positional i) word) rest) (settle_out (fold (walked rules []) (standing h positional i) (word ∷ rest)).held)

  abbrev IdleIs : List Text → Type 0
  IdleIs words = (rows : List Row) (pending : Option (Text × List Text)) (i : ℕ)
      → out (standing (held rows pending) idle i) words ≡ bind (settle_out (held rows pending)) (after (reads parameters words None i))

  abbrev WaitIs : List Text → Type 0
  WaitIs words = (a : Parameter) → IsIn parameters a → takes_values (rule_of a) ≡ true → (rows : List Row) (i : ℕ)
      → out (standing (held rows (Some (name_of a, []))) (awaiting (name_of a)) i) words ≡ after (reads parameters words (Some a) i) rows

  -- ---- a word, where no option waits

  module _ (word : Text) (rest : List Text) (ih : IdleIs rest) (wait : WaitIs rest) (rows : List Row) (pending : Option (Text × List Text)) (i : ℕ) where
    abbrev h : Held
    h = held rows pending

    abbrev first : List Row
    first = (settled rules h).rows

    abbrev next : Rest
    next = reads parameters rest

    reacting : (a : Rule) (values : List Text)
        → unless (react_fault rules false a values h) (out (standing (reacted rules a values h) idle i) rest) ≡ bind (settle_out h) (λ r. bind (used_by a values r) (after (next None i)))
    reacting a values =
        let r = used a values first in
        let behind = after (next None i) in
        ap (unless (react_fault rules false a values h)) (ih r None i) ∙ unless-or (settle_fault rules false h) (use_fault false a values first) (behind r)
        ∙ sym (bind-unless (settle_fault rules false h) first (λ x. bind (used_by a values x) behind) ∙ ap (unless (settle_fault rules false h)) (bind-unless (use_fault false a values first) r behind))

    -- a use that the word makes at once
    used_at_once : (a : Rule) (values : List Text) (u : Option (List Use)) → ((r : List Row) → bind (used_by a values r) (after (next None i)) ≡ after u r)
        → unless (or_else (react_fault rules false a values h) []) (out (standing (reacted rules a values h) idle i) rest) ≡ bind (settle_out h) (after u)
    used_at_once a values u same =
        unless-or (react_fault rules false a values h) [] (out (standing (reacted rules a values h) idle i) rest) ∙ reacting a values ∙ (λ j. bind (settle_out h) (λ r. same r j))

    -- an option begins to wait
    waits_from : (a : Parameter) → IsIn parameters a → takes_values (rule_of a) ≡ true
        → unless (or_else (settle_fault rules false h) []) (out (standing (held first (Some (name_of a, []))) (awaiting (name_of a)) i) rest) ≡ bind (settle_out h) (after (next (Some a) i))
    waits_from a fit takes =
        let o = out (standing (held first (Some (name_of a, []))) (awaiting (name_of a)) i) rest in
        unless-or (settle_fault rules false h) [] o ∙ ap (unless (settle_fault rules false h)) (wait a fit takes first i) ∙ sym (bind-unless (settle_fault rules false h) first (after (next (Some a) i)))

    abbrev long_after : Option Rule → Option Text → Held × Step
    long_after found v = after_flag rules idle word (long_met rules found v h).0 (long_met rules found v h).1

    long_is : (text : Text) (found : Option Parameter) (v : Option Text) → ((a : Parameter) → found ≡ Some a → IsIn parameters a × (is_named text a ≡ true))
        → unless (or_else (long_fault rules false (option_map rule_of found) v h) (step_fault s i (long_after (option_map rule_of found) v).0 (long_after (option_map rule_of found) v).1))
        (out (after_step rules word (standing h idle i) (long_after (option_map rule_of found) v).0 (long_after (option_map rule_of found) v).1) rest)
        ≡ bind (settle_out h) (after (read_named found v next i))
    long_is text None v fits = sym (bind-none (settle_out h) None refl)
    long_is text (Some (flag n)) (Some v) fits = sym (bind-none (settle_out h) None refl)
    long_is text (Some (flag n)) None fits = used_at_once (rule_of (flag n)) [] (put (flag n) (codes "true") (next None i)) (λ r. put_flag n r (next None i))
    long_is text (Some (option n values default)) (Some v) fits =
        used_at_once (rule_of (option n values default)) (v ∷ []) (put (option n values default) v (next None i)) (λ r. put_option n values default v r (next None i))
    long_is text (Some (option n values default)) None fits = waits_from (option n values default) (fits (option n values default) refl).0 refl
    long_is text (Some (place at n values required)) v fits = let no : false ≡ true = (fits (place at n values required) refl).1 in absurd cc

    -- ---- a word by its place

    abbrev place_by : Text → Bool → ℕ → Option (List Row)
    place_by n b k =
        unless (if b then [] else settle_fault rules false h) (out (standing (pushed n word (if b then h else settled rules h)) idle k) rest)

    placed_is : (found : Option Parameter) → ((a : Parameter) → found ≡ Some a → IsIn parameters a × (is_at i a ≡ true))
        → unless (option_map_or (λ a. positional_fault rules false a h) (option_map rule_of found) (stray_fault s)) (out (to_positional rules (option_map rule_of found) word (standing h idle i) h) rest)
        ≡ bind (settle_out h) (after (read_placed found word next i))
    placed_is None fits = sym (bind-none (settle_out h) None refl)
    placed_is (Some (flag n)) fits = let no : false ≡ true = (fits (flag n) refl).1 in absurd cc
    placed_is (Some (option n values default)) fits = let no : false ≡ true = (fits (option n values default) refl).1 in absurd cc
    placed_is (Some (place at n values required)) fits =
        let a = place at n values required in
        let fit = fits a refl in
        let given = settle_pending a fit.0 first (word ∷ []) in
        let none = settle_fault rules false h in
        ap (λ (b : Bool). place_by n b (min (i + 1) usize_max)) (and-false (is_pending (rule_of a) h.pending)) ∙ ap (place_by n false) (below_max i (fit.0.low i fit.1))
        ∙ ap (unless none) (ih first (Some (n, word ∷ [])) (i + 1) ∙ ap (λ (o : Option (List Row)). bind o (after (next None (i + 1)))) given ∙ put_place at n values required word first (next None (i + 1)))
        ∙ sym (bind-unless none first (after (put a word (next None (i + 1)))))

    plain_is : unless (option_map_or (λ a. positional_fault rules false a h) (arg_by_index rules i) (stray_fault s)) (out (to_positional rules (arg_by_index rules i) word (standing h idle i) h) rest)
        ≡ bind (settle_out h) (after (read_placed (find (is_at i) parameters) word next i))
    plain_is =
        ap (λ (o : Option Rule). unless (option_map_or (λ a. positional_fault rules false a h) o (stray_fault s)) (out (to_positional rules o word (standing h idle i) h) rest)) (by_index parameters i)
        ∙ placed_is (find (is_at i) parameters) (λ a e. find_in (IsIn parameters) (is_at i) parameters a table e)

    -- ---- a word by its looks

    abbrev other_after : Option Text → Held × Step
    other_after flags = short_or_plain rules idle word flags h

    abbrev is_short_of : Option Text → Bool
    is_short_of flags = option_map_or (λ f. is_some (slice_get (chars f) 0)) flags false

    -- a word that is no `--name`, by the fault and the outcome of its looks
    abbrev OtherIs : Kinds → Held × Step → Bool → Type 0
    OtherIs ks m short = unless (or_else ks (step_fault s i m.0 m.1)) (out (after_step rules word (standing h idle i) m.0 m.1) rest)
        ≡ bind (settle_out h) (after (read_word parameters None short None word next i))

    abbrev bundle_after : Held × Outcome → Held × Step
    bundle_after m = after_flag rules idle word m.0 m.1

    -- by the first character behind a `-`
    first_is : (c : Option ℕ) (f : Text) (k : ℕ)
        → OtherIs (bundle_step_fault rules false c f 0 h (flags_fault rules false k)) (bundle_after (bundle_step rules c f 0 outcome_plain h (bundle_met rules k))) (is_some c)
    first_is None f k = plain_is
    first_is (Some x) f k = refused_char (arg_by_short rules x) (by_short parameters x)
      where
        refused_char : (found : Option Rule) → found ≡ None
            → OtherIs (short_fault rules false found (drop (length (encode_utf8 x)) f) h (flags_fault rules false k (drop (length (encode_utf8 x)) f) 0))
            (bundle_after (short_met rules found (drop (length (encode_utf8 x)) f) h (bundle_met rules k (drop (length (encode_utf8 x)) f) 0 done))) true
        refused_char None e = sym (bind-none (settle_out h) None refl)
        refused_char (Some a) e = absurd cc

    other_is : (flags : Option Text) → OtherIs (option_map_or (λ f. bundle_fault rules false f h) flags []) (other_after flags) (is_short_of flags)
    unfolding flags_fault bundle_met chars
    other_is None = plain_is
    other_is (Some []) = plain_is
    other_is (Some (x ∷ xs)) = first_is (slice_get (chars (x ∷ xs)) 0) (x ∷ xs) (length xs)

    looks_is : (l : Option (Text × Option Text))
        → unless (turn_by idle false l word h i) (out (next_by idle false l word h i) rest) ≡ bind (settle_out h) (after (read_word parameters l (is_short_of (short_of word)) None word next i))
    looks_is None = other_is (short_of word)
    looks_is (Some p) =
        ap (λ (found : Option Rule). unless (or_else (long_fault rules false found p.1 h) (step_fault s i (long_after found p.1).0 (long_after found p.1).1))
        (out (after_step rules word (standing h idle i) (long_after found p.1).0 (long_after found p.1).1) rest)) (by_long parameters p.0)
        ∙ long_is p.0 (find (is_named p.0) parameters) p.1 (λ a e. find_in (IsIn parameters) (is_named p.0) parameters a table e)

    idle_word : is_dashes word ≡ false → out (standing h idle i) (word ∷ rest) ≡ bind (settle_out h) (after (reads parameters (word ∷ rest) None i))
    unfolding reads
    idle_word e =
        out-word idle h i word rest ∙ ap (λ (d : Bool). unless (turn_by idle d (long_of word) word h i) (out (next_by idle d (long_of word) word h i) rest)) e ∙ looks_is (long_of word)

  -- ---- a word, where an option waits

  module _ (word : Text) (rest : List Text) (ih : IdleIs rest) (a : Parameter) (fit : IsIn parameters a) (takes : takes_values (rule_of a) ≡ true) (rows : List Row) (i : ℕ) where
    abbrev waiting : Waiting
    waiting = awaiting (name_of a)

    abbrev held_none : Held
    held_none = held rows (Some (name_of a, []))

    no_value : (b : Parameter) → takes_values (rule_of b) ≡ true → used_by (rule_of b) [] rows ≡ None
    no_value (flag n) e = absurd cc
    no_value (option n values default) e = none_used n (Some n) None (option_to_list default) false n rows values
    no_value (place at n values required) e = none_used n None (Some at) [] required n rows values

    not_settled : {X : Type 0} (o : Option X) → unless (settle_fault rules false held_none) o ≡ None
    not_settled o = refused (settle_fault rules false held_none) (settled rules held_none).rows o (settle_pending a fit rows [] ∙ no_value a takes)

    not_before : {X : Type 0} (ks : Kinds) (o : Option X) → unless (or_else (settle_fault rules false held_none) ks) o ≡ None
    not_before ks o = unless-or (settle_fault rules false held_none) ks o ∙ not_settled (unless ks o)

    not_long : {X : Type 0} (b : Rule) (t : Bool) (v : Option Text) (o : Option X)
        → unless (if t then option_fault rules false b v held_none else (if is_some v then TooManyValues ∷ [] else react_fault rules false b [] held_none)) o ≡ None
    not_long b true (Some v) o = not_before (use_fault false b (v ∷ []) (settled rules held_none).rows) o
    not_long b true None o = not_settled o
    not_long b false (Some v) o = refl
    not_long b false None o = not_before (use_fault false b [] (settled rules held_none).rows) o

    no_long : {X : Type 0} (found : Option Rule) (v : Option Text) (o : Option X) → unless (long_fault rules false found v held_none) o ≡ None
    no_long None v o = refl
    no_long (Some b) v o = not_long b (takes_values b) v o

    -- the option has its value
    abbrev value_after : Option Rule → Held × Waiting
    value_after found = option_word found (name_of a) word held_none

    given_word : (b : Parameter) → takes_values (rule_of b) ≡ true
        → option_word (Some (rule_of b)) (name_of b) word (held rows (Some (name_of b, []))) ≡ (held rows (Some (name_of b, word ∷ [])), idle)
    given_word (flag n) e = absurd cc
    given_word (option n values default) e = rw (same_text n) refl
    given_word (place at n values required) e = rw (same_text n) refl

    put_any : (b : Parameter) → takes_values (rule_of b) ≡ true → (r : List Row) (us : Option (List Use)) → bind (used_by (rule_of b) (word ∷ []) r) (after us) ≡ after (put b word us) r
    put_any (flag n) e r us = absurd cc
    put_any (option n values default) e r us = put_option n values default word r us
    put_any (place at n values required) e r us = put_place at n values required word r us

    value_is : out (standing (value_after (arg_by_id rules (name_of a))).0 (value_after (arg_by_id rules (name_of a))).1 i) rest ≡ after (put a word (reads parameters rest None i)) rows
    value_is =
        let us = reads parameters rest None i in
        ap (λ (m : Held × Waiting). out (standing m.0 m.1 i) rest) (ap value_after fit.found ∙ given_word a takes) ∙ ih rows (Some (name_of a, word ∷ [])) i
        ∙ ap (λ (o : Option (List Row)). bind o (after us)) (settle_pending a fit rows (word ∷ [])) ∙ put_any a takes rows us

    abbrev ValueIs : Kinds → Held × Step → Bool → Type 0
    ValueIs ks m short = unless (or_else ks (step_fault s i m.0 m.1)) (out (after_step rules word (standing held_none waiting i) m.0 m.1) rest)
        ≡ after (read_word parameters None short (Some a) word (reads parameters rest) i) rows

    value_first : (c : Option ℕ) (f : Text) (k : ℕ)
        → ValueIs (bundle_step_fault rules false c f 0 held_none (flags_fault rules false k))
        (after_flag rules waiting word (bundle_step rules c f 0 outcome_plain held_none (bundle_met rules k)).0 (bundle_step rules c f 0 outcome_plain held_none (bundle_met rules k)).1) (is_some c)
    value_first None f k = value_is
    value_first (Some x) f k = refused_char (arg_by_short rules x) (by_short parameters x)
      where
        refused_char : (found : Option Rule) → found ≡ None
            → ValueIs (short_fault rules false found (drop (length (encode_utf8 x)) f) held_none (flags_fault rules false k (drop (length (encode_utf8 x)) f) 0))
            (after_flag rules waiting word (short_met rules found (drop (length (encode_utf8 x)) f) held_none (bundle_met rules k (drop (length (encode_utf8 x)) f) 0 done)).0
            (short_met rules found (drop (length (encode_utf8 x)) f) held_none (bundle_met rules k (drop (length (encode_utf8 x)) f) 0 done)).1) true
        refused_char None e = refl
        refused_char (Some b) e = absurd cc

    value_other : (flags : Option Text)
        → ValueIs (option_map_or (λ f. bundle_fault rules false f held_none) flags []) (short_or_plain rules waiting word flags held_none) (option_map_or (λ f. is_some (slice_get (chars f) 0)) flags false)
    unfolding flags_fault bundle_met chars
    value_other None = value_is
    value_other (Some []) = value_is
    value_other (Some (x ∷ xs)) = value_first (slice_get (chars (x ∷ xs)) 0) (x ∷ xs) (length xs)

    value_looks : (l : Option (Text × Option Text))
        → unless (turn_by waiting false l word held_none i) (out (next_by waiting false l word held_none i) rest)
        ≡ after (read_word parameters l (option_map_or (λ f. is_some (slice_get (chars f) 0)) (short_of word) false) (Some a) word (reads parameters rest) i) rows
    value_looks None = value_other (short_of word)
    value_looks (Some p) =
        let m = long_met rules (arg_by_long rules p.0) p.1 held_none in
        let stands = after_flag rules waiting word m.0 m.1 in
        let o = out (after_step rules word (standing held_none waiting i) stands.0 stands.1) rest in
        unless-or (long_fault rules false (arg_by_long rules p.0) p.1 held_none) (step_fault s i stands.0 stands.1) o
        ∙ no_long (arg_by_long rules p.0) p.1 (unless (step_fault s i stands.0 stands.1) o)

    wait_word : is_dashes word ≡ false → out (standing held_none waiting i) (word ∷ rest) ≡ after (reads parameters (word ∷ rest) (Some a) i) rows
    unfolding reads
    wait_word e =
        out-word waiting held_none i word rest ∙ ap (λ (d : Bool). unless (turn_by waiting d (long_of word) word held_none i) (out (next_by waiting d (long_of word) word held_none i) rest)) e
        ∙ value_looks (long_of word)

  -- ---- all the words

  first_false : (a b : Bool) → (a || b) ≡ false → (a ≡ false) × (b ≡ false)
  first_false true b e = absurd cc
  first_false false b e = (refl, e)

  no_words : IdleIs [] × WaitIs []
  unfolding walk_fault reads
  no_words = (λ rows pending i. ends (settle_out (held rows pending)), λ a fit takes rows i. settle_pending a fit rows [] ∙ none_for a takes rows)
    where
      ends : (o : Option (List Row)) → o ≡ bind o (λ r. Some r)
      ends None = refl
      ends (Some r) = refl

      none_for : (b : Parameter) → takes_values (rule_of b) ≡ true → (rows : List Row) → used_by (rule_of b) [] rows ≡ None
      none_for (flag n) e rows = absurd cc
      none_for (option n values default) e rows = none_used n (Some n) None (option_to_list default) false n rows values
      none_for (place at n values required) e rows = none_used n None (Some at) [] required n rows values

  walks : (words : List Text) → list_any is_dashes words ≡ false → IdleIs words × WaitIs words
  walks [] e = no_words
  walks (word ∷ rest) e =
      let each = first_false (is_dashes word) (list_any is_dashes rest) e in
      let behind = walks rest each.1 in (
        λ rows pending i. idle_word word rest behind.0 behind.1 rows pending i each.0,
        λ a fit takes rows i. wait_word word rest behind.0 a fit takes rows i each.0,
      )

  -- the rows at the end of a line are those of its uses
  pub line_walked : (words : List Text) → list_any is_dashes words ≡ false → out (standing (held [] None) idle 1) words ≡ after (reads parameters words None 1) []
  line_walked words e = (walks words e).0 [] None 1
