use Rattle.guest_parts.proofs.Entries.{bad_ends, fence_leaves, flush_leaves, full_leaves, grow_leaves, load_ends, load_leaves, locked_ends, locked_leaves, miss_ends, miss_tells, over_leaves, store_ends, store_leaves, tick_leaves, wait_leaves}
use Rattle.guest_parts.proofs.laws.entries_leave_guests.Goals as goal

pub returns-clause-tick : goal.returns-clause-tick
returns-clause-tick c = tick_leaves

pub returns-clause-wait : goal.returns-clause-wait
returns-clause-wait c = wait_leaves

pub returns-clause-over : goal.returns-clause-over
returns-clause-over c = over_leaves

pub returns-clause-flush : goal.returns-clause-flush
returns-clause-flush c = flush_leaves

pub returns-clause-miss : goal.returns-clause-miss
returns-clause-miss e = λ c b t g d a h w. miss_tells c b t g d h w a

pub returns-clause-strict : goal.returns-clause-strict
returns-clause-strict e = λ c b t g d a h w. miss_ends c b t g d h w a

pub returns-clause-load : goal.returns-clause-load
returns-clause-load c = load_leaves

pub returns-clause-load_ends : goal.returns-clause-load_ends
returns-clause-load_ends e = λ c b t g d h w room a x width left. load_ends c b t g d h w room a x width left

pub returns-clause-locked : goal.returns-clause-locked
returns-clause-locked c = locked_leaves

pub returns-clause-locked_ends : goal.returns-clause-locked_ends
returns-clause-locked_ends e = λ c b t g d h w room a x width change left. locked_ends c b t g d h w room a x width change left

pub returns-clause-store : goal.returns-clause-store
returns-clause-store c = store_leaves

pub returns-clause-store_ends : goal.returns-clause-store_ends
returns-clause-store_ends e = λ c b t g d h w room a value x width next left. store_ends c b t g d h w room a value x width next left

pub returns-clause-fence : goal.returns-clause-fence
returns-clause-fence c = fence_leaves

pub returns-clause-bad : goal.returns-clause-bad
returns-clause-bad e = λ c b t g d h w room left kind. bad_ends c b t g d h w left kind room

pub returns-clause-grow : goal.returns-clause-grow
returns-clause-grow e = λ c b t g d a h w. grow_leaves c b t g d h w a

pub returns-clause-full : goal.returns-clause-full
returns-clause-full e = λ c b t g d a h w. full_leaves c b t g d h w a
