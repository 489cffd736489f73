-- What a request of the library does to the lives of threads, and which entry of a journal asked for it.
use Rattle.std.specs.Prelude.{◌≡◌, ◌≢◌, ℕ, true, [], Some, None, ⊤}
use Rattle.address_space.specs.Slots.{slot_of}
use Rattle.elf_image.specs.declared.place.Function.TheVariants as function
use Rattle.journal_pack.specs.declared.entry.Entry.{Entry}
use Rattle.journal_pack.specs.declared.entry.Entry.TheVariants.{Ev}
use Rattle.lib_table.specs.declared.ask.Ask.{Ask}
use Rattle.lib_table.specs.declared.ask.Asked.{Asked}
use Rattle.lib_table.specs.declared.ask.Asked.TheVariants.{Lib, EndDoor}
use Rattle.lib_table.specs.declared.life.Life.{Life}
use Rattle.lib_table.specs.declared.life.Life.TheVariants.{Unborn, Live, Ended, Joined}
use Rattle.lib_table.specs.Library.{LibraryData, life_at, next_number, with_joined, with_life}
use Rattle.lib_table.specs.Outcome.{a3, a4}
use Rattle.x86_model.specs.Want.{want}
use Rattle.machine_model.specs.CaseData.{CaseData}
use Rattle.machine_model.specs.Gated.{Both, Stand}
use Rattle.machine_model.specs.Own.{IsAhead, frames_at, writes_at}
use Rattle.machine_model.specs.State.{is_live}
use Rattle.machine_model.specs.Step.{asked_by}

-- a request leaves all lives as they are, bears a thread, ends its own, or joins one
pub data LifeChange : Type 0 where
  Keeps : LifeChange
  Bears : (u : ℕ) → LifeChange
  Ends : LifeChange
  Joins : (u : ℕ) → LifeChange

-- the lives after it, where thread t asked
abbrev pub lives_after : LibraryData → ℕ → Ask → LifeChange → LibraryData
lives_after l t ask Keeps = l
lives_after l t ask (Bears u) = with_life l u (Live (a3 ask) (a4 ask))
lives_after l t ask Ends = with_life l t (Ended ask.rax)
lives_after l t ask (Joins u) = with_joined l u

-- What it needs: `pthread_create` bears the next number, a return to the end door without a call back under way ends a thread
-- that isn't thread 0, and `pthread_join` joins one that ended.
abbrev pub HasCause : LibraryData → ℕ → Ask → LifeChange → Type 0
HasCause l t ask Keeps = ⊤
HasCause l t ask (Bears u) = (ask.what ≡ Lib function.PthreadCreate) × (next_number l ≡ Some u)
HasCause l t ask Ends = (ask.what ≡ EndDoor) × (ask.top ≡ None) × (t ≢ 0)
HasCause l t ask (Joins u) = (value : ℕ) × (ask.what ≡ Lib function.PthreadJoin) × (life_at l u ≡ Ended value)

-- an entry is an event of thread t that asks this of the library
pub record Requests (c : CaseData) (b : Both) (e : Entry) (t : ℕ) (what : Asked) : Type 0 where
  pub k : ℕ
  pub event : e ≡ Ev t k
  pub stand : Stand
  pub ahead : IsAhead c b (slot_of t) k stand
  pub asks : asked_by (want c.image stand.cpu) ≡ Some what

-- the life of a number
abbrev pub life_of : Both → ℕ → Life
life_of b u = life_at b.machine.library u

-- an unborn thread lives: its creator called `pthread_create`
pub record Begins (c : CaseData) (b n : Both) (e : Entry) (u : ℕ) : Type 0 where
  pub before : life_of b u ≡ Unborn
  pub after : is_live n.machine u ≡ true
  pub creator : ℕ
  pub call : Requests c b e creator (Lib function.PthreadCreate)

-- a live thread other than thread 0 has ended: it returned to the end door itself, with no call back under way, and neither
-- then nor afterwards does a write of it wait
pub record Finishes (c : CaseData) (b n : Both) (e : Entry) (u : ℕ) : Type 0 where
  pub before : is_live b.machine u ≡ true
  pub value : ℕ
  pub after : life_of n u ≡ Ended value
  pub call : Requests c b e u EndDoor
  pub other : u ≢ 0
  pub frames : (frames_at b u ≡ []) × (frames_at n u ≡ [])
  pub writes : (writes_at b u ≡ []) × (writes_at n u ≡ [])

-- a thread that has ended is joined: another called `pthread_join`
pub record IsTaken (c : CaseData) (b n : Both) (e : Entry) (u : ℕ) : Type 0 where
  pub value : ℕ
  pub before : life_of b u ≡ Ended value
  pub after : life_of n u ≡ Joined
  pub caller : ℕ
  pub call : Requests c b e caller (Lib function.PthreadJoin)

-- what an entry makes of the life of a number
pub data LifeGoes (c : CaseData) (b n : Both) (e : Entry) (u : ℕ) : Type 0 where
  Stays : life_of n u ≡ life_of b u → LifeGoes c b n e u
  Begun : Begins c b n e u → LifeGoes c b n e u
  Finished : Finishes c b n e u → LifeGoes c b n e u
  Taken : IsTaken c b n e u → LifeGoes c b n e u
