-- The files of a run: its misses, and what is written.
use Rattle.std.proofs.Common.{◌≡◌, ℕ, inl, inr, false, cond, Ordering, Less, Equal, Greater, List, [], ◌∷◌, ◌++◌, Option, Some, None, refl, ap, ◌∙◌, subst}
use Rattle.std.specs.Prelude.{◌⊎◌, All, IfSome, IfErr, Result, Ok, Err, OnOk}
use Rattle.std.specs.FinMap.{get, get-insert, insert, nat_cmp-IsAntisymmetric, slice_cmp-IsAntisymmetric}
use Rattle.std.specs.Ordering.{nat_cmp, is_eq}
use Rattle.std.specs.Cmp.Lexicographic.{slice_cmp, nat_list_cmp_total}
use Rattle.std.specs.List.{filter_map, AllByRecursion}
use Rattle.std.proofs.lemmas.List.Elements.{All-from_recursion, recursion_from_All}
use Rattle.std.proofs.lemmas.List.{append_assoc}
use Rattle.journal_pack.specs.declared.entry.Entry.{Entry}
use Rattle.journal_pack.specs.declared.entry.Entry.TheVariants.{Ev, Tick, Flush, Wait, Miss, Grow, Over, Full, Dead}
use Rattle.journal_pack.specs.Entry.{HasSpelling}
use Rattle.miss_report.specs.declared.miss.Miss.{Miss as MissData}
use Rattle.miss_report.specs.Miss.{IsReportable}
use Rattle.mx_outside.specs.Causes.{Rose}
use Rattle.mx_outside.specs.Names.{NameMap, ReplacesNamed}
use Rattle.journal_pack.specs.Packed.{packed}
use Rattle.miss_report.specs.Report.{report}
use Rattle.recompile_core.specs.declared.files.Unwritten.{Unwritten}
use Rattle.recompile_core.specs.declared.files.Unwritten.TheVariants.{Failed, Memory}
use Rattle.recompile_core.specs.After.{FilesAfter, KeepsOther, OthersKept, Wrote, miss_of, misses, unchanged, with_file, with_files}
use Rattle.recompile_core.specs.Runs.{ReportUnwritten}
use Rattle.recompile_core.specs.World.{FilesNow}

-- ---- misses

-- one entry more was looked at
pub next_miss : (found rest_misses all : List MissData) (o : Option MissData) (m : MissData) → found ++ m ∷ rest_misses ≡ all → (found ++ m ∷ []) ++ rest_misses ≡ all
next_miss found rest_misses all o m e = append_assoc found (m ∷ []) rest_misses ∙ e

reportable-by : (es : List Entry) → AllByRecursion HasSpelling es → AllByRecursion IsReportable (filter_map miss_of es)
reportable-by [] h = tt
reportable-by (Ev t k ∷ es) h = reportable-by es h.1
reportable-by (Tick t k ∷ es) h = reportable-by es h.1
reportable-by (Flush t ∷ es) h = reportable-by es h.1
reportable-by (Wait t k ∷ es) h = reportable-by es h.1
reportable-by (Miss t k source target ∷ es) h = (h.0.0.1, reportable-by es h.1)
reportable-by (Grow t a ∷ es) h = reportable-by es h.1
reportable-by (Over t k ∷ es) h = reportable-by es h.1
reportable-by (Full t ∷ es) h = reportable-by es h.1
reportable-by (Dead ∷ es) h = reportable-by es h.1

-- a journal's misses have lines
pub reportable : (es : List Entry) → All HasSpelling es → All IsReportable (misses es)
reportable es h = All-from_recursion IsReportable (misses es) (reportable-by es (recursion_from_All HasSpelling es h))

-- ---- one file

not-equal : (o : Ordering) → (o ≡ Equal → ⊥) → is_eq o ≡ false
not-equal Less h = refl
not-equal Equal h = absurd (h refl)
not-equal Greater h = refl

inserted : (m n : NameMap) (name bytes other : List ℕ) → n ≡ insert m name bytes → (other ≡ name → ⊥) → get n other ≡ get m other
inserted m n name bytes other e ne =
    ap (λ (x : NameMap). get x other) e
    ∙ get-insert nat_list_cmp_total m name bytes other
    ∙ ap (λ b. cond b (Some bytes) (get m other)) (not-equal (slice_cmp nat_cmp other name) (λ q. ne (slice_cmp-IsAntisymmetric nat_cmp-IsAntisymmetric other name q)))

-- one file was written, or not
pub others_wrote : {E : Type 0} (f g : FilesNow) (name bytes : List ℕ) (r : Result (Unit {0}) E) → ReplacesNamed f.names g.names name bytes r → OthersKept f g (Some name) None
others_wrote f g name bytes r h = by-names f.names g.names r h
  where
    by-names : {E : Type 0} (fn gn : Option NameMap) (r : Result (Unit {0}) E) → ReplacesNamed fn gn name bytes r → IfSome fn (λ m. (n : NameMap) × (gn ≡ Some n) × KeepsOther (Some name) None m n)
    by-names None gn r h = tt
    by-names (Some m) None r h = absurd h
    by-names (Some m) (Some n) (Ok u) h = (n, refl, record { each = λ other a b. inserted m n name bytes other h a })
    by-names (Some m) (Some n) (Err e) h = (n, refl, record { each = λ other a b. h other a })

-- none was
pub others_same : (f g : FilesNow) (a b : Option (List ℕ)) → g.names ≡ f.names → OthersKept f g a b
others_same f g a b e = by-names f.names g.names e
  where
    by-names : (fn gn : Option NameMap) → gn ≡ fn → IfSome fn (λ m. (n : NameMap) × (gn ≡ Some n) × KeepsOther a b m n)
    by-names None gn e = tt
    by-names (Some m) gn e = (m, e, record { each = λ name x y. refl })

-- ---- both files

-- the journal's file, and then the report's
pub others_both : (f g h : FilesNow) (a b : Option (List ℕ)) → OthersKept f g a None → OthersKept g h None b → OthersKept f h a b
others_both f g h a b x y = by-names f.names g.names h.names x y
  where
    by-names : (fn gn hn : Option NameMap) → IfSome fn (λ m. (n : NameMap) × (gn ≡ Some n) × KeepsOther a None m n) → IfSome gn (λ m. (n : NameMap) × (hn ≡ Some n) × KeepsOther None b m n) → IfSome fn (λ m. (n : NameMap) × (hn ≡ Some n) × KeepsOther a b m n)
    by-names None gn hn x y = tt
    by-names (Some m) gn hn x y =
        let z = let P : Option NameMap → Type 0 = λ q. IfSome q (λ m. (n : NameMap) × (hn ≡ Some n) × KeepsOther None b m n) in subst P x.1 y in
        (z.0, z.1, record { each = λ name p q. z.2.each name tt q ∙ x.2.each name p tt })

pub others_first : (f g : FilesNow) (a b : Option (List ℕ)) → OthersKept f g a None → OthersKept f g a b
others_first f g a b x = by-names f.names g.names x
  where
    by-names : (fn gn : Option NameMap) → IfSome fn (λ m. (n : NameMap) × (gn ≡ Some n) × KeepsOther a None m n) → IfSome fn (λ m. (n : NameMap) × (gn ≡ Some n) × KeepsOther a b m n)
    by-names None gn x = tt
    by-names (Some m) gn x = (x.0, x.1, record { each = λ name p q. x.2.each name p tt })

-- one change of the files after another
pub wrote_then : (f g h : FilesNow) (first second : NameMap → NameMap) → Wrote f g first → Wrote g h second → Wrote f h (λ m. second (first m))
wrote_then f g h first second x y = (y.0 ∙ x.0, by-names f.names g.names h.names x.1 y.1)
  where
    by-names : (fn gn hn : Option NameMap) → IfSome fn (λ m. gn ≡ Some (first m)) → IfSome gn (λ m. hn ≡ Some (second m)) → IfSome fn (λ m. hn ≡ Some (second (first m)))
    by-names None gn hn x y = tt
    by-names (Some m) gn hn x y = let P : Option NameMap → Type 0 = λ q. IfSome q (λ m. hn ≡ Some (second m)) in subst P x y

-- a count that doesn't change and then rises has risen
pub rose_on : (f g h : ℕ) → g ≡ f → Rose g h → Rose f h
rose_on f g h e r = subst (λ n. Rose n h) e r

-- nothing was written
pub wrote_none : (f g : FilesNow) → g.names ≡ f.names → g.writes ≡ f.writes → Wrote f g unchanged
wrote_none f g e w = (w, by-names f.names g.names e)
  where
    by-names : (fn gn : Option NameMap) → gn ≡ fn → IfSome fn (λ m. gn ≡ Some m)
    by-names None gn e = tt
    by-names (Some m) gn e = e

-- how far the files came
abbrev pub Stages : FilesNow → FilesNow → (a b : Option (List ℕ)) → List Entry → Type 0
Stages f g a b journal = Rose f.writes g.writes ⊎ (Wrote f g unchanged ⊎ (Wrote f g (with_file a (packed journal)) ⊎ Wrote f g (with_files a b journal)))

stages-by : (f g h : FilesNow) (a b : Option (List ℕ)) (journal : List Entry) (r : Result (Unit {0}) Unwritten) → Wrote f g (with_file a (packed journal)) → OnOk r (Wrote g h (with_file b (report (misses journal)))) → IfErr r (λ e. ReportUnwritten e g h) → Stages f h a b journal
stages-by f g h a b journal (Ok u) w ok err = inr (inr (inr (wrote_then f g h (with_file a (packed journal)) (with_file b (report (misses journal))) w ok)))
stages-by f g h a b journal (Err Failed) w ok err = inl (rose_on f.writes g.writes h.writes w.0 err)
stages-by f g h a b journal (Err Memory) w ok err = inr (inr (inl (wrote_then f g h (with_file a (packed journal)) unchanged w err)))

pub files_after : (f g h : FilesNow) (a b : Option (List ℕ)) (journal : List Entry) (r : Result (Unit {0}) Unwritten) → Wrote f g (with_file a (packed journal)) → OthersKept f g a None → OnOk r (Wrote g h (with_file b (report (misses journal)))) → IfErr r (λ e. ReportUnwritten e g h) → OthersKept g h None b → FilesAfter f h a b journal
files_after f g h a b journal r w x ok err y = record { others = others_both f g h a b x y; stages = stages-by f g h a b journal r w ok err }

pub files_failed : (f g : FilesNow) (a b : Option (List ℕ)) (journal : List Entry) → Rose f.writes g.writes → OthersKept f g a None → FilesAfter f g a b journal
files_failed f g a b journal r x = record { others = others_first f g a b x; stages = inl r }

pub files_same : (f g : FilesNow) (a b : Option (List ℕ)) (journal : List Entry) → g ≡ f → FilesAfter f g a b journal
files_same f g a b journal e = record { others = others_same f g a b (ap (λ (x : FilesNow). x.names) e); stages = inr (inl (wrote_none f g (ap (λ (x : FilesNow). x.names) e) (ap (λ (x : FilesNow). x.writes) e))) }

-- an answer that has the report's name in the other place
pub others_swap : (f g : FilesNow) (b : Option (List ℕ)) → OthersKept f g b None → OthersKept f g None b
others_swap f g b x = by-names f.names g.names x
  where
    by-names : (fn gn : Option NameMap) → IfSome fn (λ m. (n : NameMap) × (gn ≡ Some n) × KeepsOther b None m n) → IfSome fn (λ m. (n : NameMap) × (gn ≡ Some n) × KeepsOther None b m n)
    by-names None gn x = tt
    by-names (Some m) gn x = (x.0, x.1, record { each = λ name p q. x.2.each name q tt })
