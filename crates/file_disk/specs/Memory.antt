-- What is seen of files in memory, and which of their answers are planned.
use Rattle.std.specs.Prelude.{◌≡◌, ℕ, ◌+◌, ◌-◌, ◌^◌, ◌≤◌, min, max, nat_lt, Bool, if◌then◌else◌, List, get_or, Result, Ok, Err, MatchResult}
use Rattle.disk_trait.specs.History.{MemDiskView, disk_view_of}
use Rattle.file_disk.specs.declared.answers.AnswerPlan.{AnswerPlan}
use Rattle.file_disk.specs.declared.answers.Planned.{Planned}
use Rattle.file_disk.specs.declared.answers.Planned.TheVariants as plans
use Rattle.file_disk.specs.declared.fault.CallFault.{CallFault}
use Rattle.file_disk.specs.declared.fault.CallFault.TheVariants.{Interrupted, Failed}
use Rattle.file_disk.specs.declared.memory.MemFiles.{MemFiles}
use Rattle.file_disk.specs.Files.{FilesView}

-- the files that a disk in memory is
abbrev pub mem_view : MemDiskView → Bool → ℕ → ℕ → FilesView
mem_view disk locked faults interrupted =
    let seen = disk_view_of disk in
    record {
      honest = seen.honest;
      reads = seen.reads;
      image = seen.image;
      past = seen.past;
      moment = seen.moment;
      locked = locked;
      faults = faults;
      interrupted = interrupted;
    }

-- what is seen of files in memory
abbrev pub mem_view_of : MemFiles → FilesView
mem_view_of files = mem_view files.disk files.locked files.answers.faults files.answers.interrupted

-- the answer that is planned for a call of this number: behind the plan's end a call is answered wholly
abbrev pub answer_at : List Planned → ℕ → Planned
answer_at plan call = get_or plan call plans.Whole

-- how the next call is to be answered
abbrev pub next_answer_of : MemFiles → Planned
next_answer_of files = answer_at files.answers.plan.items files.answers.given

-- a call takes one answer of the plan
pub record TakesAnswer (old new : AnswerPlan) : Type 0 where
  pub plan : new.plan.items ≡ old.plan.items
  pub given : new.given ≡ min (old.given + 1) (2 ^ 64 - 1)

-- so many bytes from an offset, unless they would end past the largest one
abbrev pub within_offsets : ℕ → ℕ → Result ℕ CallFault
within_offsets at n = if nat_lt (at + n) (2 ^ 64) then Ok n else Err Failed

-- how many bytes a read or a write of so many from an offset moves at most where its answer is planned, or why it moves none
abbrev pub planned_front : Planned → ℕ → ℕ → Result ℕ CallFault
planned_front plans.Whole at len = within_offsets at len
planned_front (plans.Short most) at len = within_offsets at (min len (max most 1))
planned_front plans.Interrupted at len = Err Interrupted
planned_front plans.Failed at len = Err Failed

-- a read or a write was answered as planned, or the disk refused it
abbrev pub IsAsPlanned : Result ℕ CallFault → (ℕ → Type 0) → Result ℕ CallFault → Type 0
IsAsPlanned (Ok len) Refuses answer = MatchResult answer (λ n. n ≤ len) (λ fault. (fault ≡ Failed) × Refuses len)
IsAsPlanned (Err fault) Refuses answer = answer ≡ Err fault
