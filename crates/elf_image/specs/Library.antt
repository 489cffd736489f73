-- The functions of the library, by name, and the symbols of a file that place them.
use Rattle.std.specs.Prelude.{ℕ, ◌/◌, ◌%◌, ◌==◌, nat_eq, Bool, not, ◌&&◌, ◌||◌, if◌then◌else◌, List, [], ◌∷◌, ◌++◌, drop, find, codes, Option, Some, None}
use Rattle.std.specs.List.{starts_with, filter_map}
use Rattle.std.specs.Option.{option_map}
use Rattle.elf_image.specs.declared.header.SectionHeader.{SectionHeader}
use Rattle.elf_image.specs.declared.header.Symbol.{Symbol}
use Rattle.elf_image.specs.declared.place.Function.{Function}
use Rattle.elf_image.specs.declared.place.Function.TheVariants.{PthreadCreate, PthreadJoin, PthreadSelf, MutexInit, MutexLock, MutexTrylock, MutexUnlock, MutexDestroy, Bsearch, Read, Write, Exit, CondInit, CondDestroy, CondWait, CondSignal, CondBroadcast, BarrierInit, BarrierWait, BarrierDestroy, Once}
use Rattle.elf_image.specs.declared.place.LibPlace.{LibPlace}
use Rattle.elf_image.specs.Elf.{part, string_table, symbol_table, symbols_of}

-- the name of a function in C
abbrev pub name_of : Function → List ℕ
name_of PthreadCreate = codes "pthread_create"
name_of PthreadJoin = codes "pthread_join"
name_of PthreadSelf = codes "pthread_self"
name_of MutexInit = codes "pthread_mutex_init"
name_of MutexLock = codes "pthread_mutex_lock"
name_of MutexTrylock = codes "pthread_mutex_trylock"
name_of MutexUnlock = codes "pthread_mutex_unlock"
name_of MutexDestroy = codes "pthread_mutex_destroy"
name_of Bsearch = codes "bsearch"
name_of Read = codes "read"
name_of Write = codes "write"
name_of Exit = codes "exit"
name_of CondInit = codes "pthread_cond_init"
name_of CondDestroy = codes "pthread_cond_destroy"
name_of CondWait = codes "pthread_cond_wait"
name_of CondSignal = codes "pthread_cond_signal"
name_of CondBroadcast = codes "pthread_cond_broadcast"
name_of BarrierInit = codes "pthread_barrier_init"
name_of BarrierWait = codes "pthread_barrier_wait"
name_of BarrierDestroy = codes "pthread_barrier_destroy"
name_of Once = codes "pthread_once"

abbrev pub functions : List Function
functions = PthreadCreate ∷ PthreadJoin ∷ PthreadSelf ∷ MutexInit ∷ MutexLock ∷ MutexTrylock ∷ MutexUnlock ∷ MutexDestroy ∷ Bsearch ∷ Read ∷ Write ∷ Exit ∷ CondInit ∷ CondDestroy ∷ CondWait ∷ CondSignal ∷ CondBroadcast ∷ BarrierInit ∷ BarrierWait ∷ BarrierDestroy ∷ Once ∷ []

-- the text and a zero byte stand at the front of the bytes
abbrev pub begins_with_name : List ℕ → List ℕ → Bool
begins_with_name bytes text = starts_with nat_eq bytes (text ++ 0 ∷ [])

-- the function whose name stands at the offset in the strings
unfoldable pub function_named : List ℕ → ℕ → Option Function
function_named strings offset = find (λ f. begins_with_name (drop offset strings) (name_of f)) functions

-- the symbol is defined (not SHN_UNDEF), its binding is not STB_LOCAL, and its type is STT_NOTYPE or STT_FUNC
abbrev pub is_exported : Symbol → Bool
is_exported s = not (s.section == 0) && not (s.info / 16 == 0) && (s.info % 16 == 0 || s.info % 16 == 2)

-- the function that an exported symbol of its name places at its value
abbrev pub place_of : List ℕ → Symbol → Option LibPlace
place_of strings s = if is_exported s then option_map (λ f. record { at = s.value; function = f }) (function_named strings s.name) else None

abbrev pub places_in : List ℕ → Option SectionHeader → List LibPlace
places_in bytes None = []
places_in bytes (Some symbols) =
    let strings = string_table bytes symbols in
    filter_map (place_of (part strings.offset strings.size bytes)) (symbols_of bytes symbols)

-- what the symbols of the file place, in their order; without a symbol table nothing
unfoldable pub library_places : List ℕ → List LibPlace
library_places bytes = places_in bytes (symbol_table bytes)
