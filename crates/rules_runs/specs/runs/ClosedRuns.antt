-- Runs of the rules where one is easy to get wrong, as the bench prints them. The expected entries are those of the independent model.
use Rattle.std.specs.Prelude.{ℕ, ◌+◌, ◌≡◌, refl, List, [], ◌∷◌, ◌++◌, replicate}
use Rattle.memory.specs.declared.DeviceAnswer.TheVariants.{Pending, Done, Failed}
use Rattle.memory.specs.declared.JobType.{JobType}
use Rattle.memory.specs.declared.JobType.TheVariants.{Write, Read, Compare, Erase, BlankCheck, Lock}
use Rattle.plan.proofs.runs.Examples.{plan_t, plan_e, device, area, sub_area, sizes}
use Rattle.rules.specs.Session.{Entry, number, devices, info, Line, call, answers, nothing, locked, request}
use Rattle.arith.specs.Bounded as Bounded
use Rattle.arith.specs.FirstNo as FirstNo
use Rattle.arith.specs.Listed as Listed
use Rattle.arith.specs.Multiples as Multiples
use Rattle.arith.specs.Tables as Tables
use Rattle.arith.specs.Parts as Parts
use Rattle.plan.specs.Number as Number
use Rattle.plan.specs.Records as Records
use Rattle.plan.specs.Questions as Questions
use Rattle.segment.specs.Mapping as Mapping
use Rattle.segment.specs.Segments as Segments
use Rattle.rules.specs.Layout as Layout
use Rattle.rules.specs.Ranks as Ranks
use Rattle.rules.specs.Machine as Machine
use Rattle.rules.specs.Admission as Admission
use Rattle.rules.specs.Round as Round
use Rattle.rules.specs.History as History
use Rattle.rules.specs.Session as Session

-- two devices; area 0 has a sub-area on device 1 and one on device 0, area 1 one on device 0
abbrev pub plan_u : List ℕ
plan_u =
    device 0 64 2 ++ device 64 32 3 ++ area 5 16 0 16 ++ area 1 0 16 16 ++ sub_area 0 1 64 (sizes 16 16 4 4 1 8) 1 1 0
    ++ sub_area 0 0 16 (sizes 16 32 4 8 1 8) 2 1 0 ++ sub_area 1 0 48 (sizes 16 16 4 4 1 8) 1 0 0

-- plan T with one priority for both areas
abbrev pub plan_v : List ℕ
plan_v = device 0 64 2 ++ area 3 0 0 16 ++ area 3 256 16 16 ++ sub_area 0 0 0 (sizes 16 32 4 8 1 8) 2 1 0 ++ sub_area 1 0 32 (sizes 16 16 4 4 1 4) 2 0 0

-- bursts 24 and 12, which are no powers of two
abbrev pub plan_w : List ℕ
plan_w = device 0 96 3 ++ area 1 0 0 48 ++ sub_area 0 0 12 (sizes 12 24 4 12 2 6) 4 0 0

abbrev pub job : JobType → ℕ → ℕ → ℕ → Line
job k a address n = call (History.submit a (record { kind = k; address = record { 0 = address }; length = n }))

abbrev pub cancel : ℕ → Line
cancel a = call (History.cancels a)

abbrev pub release : ℕ → ℕ → ℕ → Line
release a address n = call (History.releases a (record { 0 = address }) n)

abbrev pub ask : ℕ → Line
ask a = call (History.asks (History.job_info a))

-- what the bench prints on a plan with an image of n bytes; no window ends behind 48
abbrev pub prints : List ℕ → ℕ → List Line → List Entry
prints plan n lines =
    (Session.play (Records.plan_of plan) lines
    (record { history = History.fresh_history; memory = record { image = replicate n 255; store = replicate 48 0 }; printed = [] })).printed

-- Area a writes 4 zeros at x, reads 4 bytes of 255 behind them and writes these over the zeros. When that job is over, n bytes are compared.
abbrev rewrites : ℕ → ℕ → List Line → ℕ → List Line
rewrites a x ends n =
    job Write a x 4 ∷ answers (Pending ∷ []) ∷ answers (Done ∷ []) ∷ job Read a (x + 4) 4 ∷ answers (Pending ∷ []) ∷ answers (Done ∷ [])
    ∷ job Write a x 4 ∷ answers (Pending ∷ []) ∷ ends ++ job Compare a x n ∷ answers (Pending ∷ []) ∷ answers (Done ∷ []) ∷ ask a ∷ []

-- what that prints, where x is at y in the image
abbrev rewrites_print : ℕ → ℕ → List Entry → ℕ → Entry → List Entry
rewrites_print a y ends n compared =
    number 0 ∷ devices (request a 1 y 4 ∷ []) ∷ devices (nothing ∷ []) ∷ number 0 ∷ devices (request a 2 (y + 4) 4 ∷ []) ∷ devices (nothing ∷ [])
    ∷ number 0 ∷ devices (request a 1 y 4 ∷ []) ∷ ends ++ number 0 ∷ devices (request a 3 y n ∷ []) ∷ devices (nothing ∷ []) ∷ compared ∷ []

pub closed_runs :
    -- A request that is dropped at the poll limit is due again where a retry is left, and may start in the same round.
    (prints plan_t 64 (job Write 0 4 4 ∷ answers (Pending ∷ []) ∷ answers (Pending ∷ []) ∷ answers (Pending ∷ []) ∷ answers (Done ∷ []) ∷ ask 0 ∷ [])
    ≡ number 0 ∷ devices (request 0 1 4 4 ∷ []) ∷ devices (request 0 1 4 4 ∷ []) ∷ devices (request 0 1 4 4 ∷ []) ∷ devices (nothing ∷ []) ∷ info 0 4 3 0 0 0 ∷ [])
    -- Without a retry the drop ends the job with 1.
    × (prints plan_t 64 (job Write 1 256 4 ∷ answers (Pending ∷ []) ∷ answers (Pending ∷ []) ∷ answers (Pending ∷ []) ∷ ask 1 ∷ [])
    ≡ number 0 ∷ devices (request 1 1 32 4 ∷ []) ∷ devices (request 1 1 32 4 ∷ []) ∷ devices (nothing ∷ []) ∷ info 1 0 2 0 0 0 ∷ [])
    -- A failed write has acted on its first 3 bytes; the others are still 255. Cancelled, it is not retried.
    × (prints plan_t 64 (job Write 0 0 8 ∷ answers (Pending ∷ []) ∷ answers (Failed 3 ∷ []) ∷ cancel 0 ∷ answers (Failed 0 ∷ []) ∷ ask 0 ∷ job BlankCheck 0 0 3 ∷ answers (Pending ∷ []) ∷ answers (Done ∷ []) ∷ ask 0 ∷ job BlankCheck 0 3 5 ∷ answers (Pending ∷ []) ∷ answers (Done ∷ []) ∷ ask 0 ∷ [])
    ≡ number 0 ∷ devices (request 0 1 0 8 ∷ []) ∷ devices (request 0 1 0 8 ∷ []) ∷ number 0 ∷ devices (nothing ∷ []) ∷ info 3 0 2 0 0 0 ∷ number 0 ∷ devices (request 0 6 0 3 ∷ []) ∷ devices (nothing ∷ []) ∷ info 2 0 1 0 0 0 ∷ number 0 ∷ devices (request 0 6 3 5 ∷ []) ∷ devices (nothing ∷ []) ∷ info 0 5 1 0 0 0 ∷ [])
    -- The image holds 255, the window 0.
    × (prints plan_t 64 (job Compare 0 0 4 ∷ answers (Pending ∷ []) ∷ answers (Done ∷ []) ∷ ask 0 ∷ [])
    ≡ number 0 ∷ devices (request 0 3 0 4 ∷ []) ∷ devices (nothing ∷ []) ∷ info 2 0 1 0 0 0 ∷ [])
    -- The area stays pending; the done segment counts, and the result is 3.
    × (prints plan_t 64 (job Write 0 4 12 ∷ answers (Pending ∷ []) ∷ cancel 0 ∷ ask 0 ∷ cancel 0 ∷ answers (Done ∷ []) ∷ ask 0 ∷ cancel 0 ∷ [])
    ≡ number 0 ∷ devices (request 0 1 4 4 ∷ []) ∷ number 0 ∷ info 0 0 1 0 0 0 ∷ number 0 ∷ devices (nothing ∷ []) ∷ info 3 4 1 0 0 0 ∷ number 17 ∷ [])
    -- The lock goes to the higher area; the write waits until the release. Only the holder releases.
    × (prints plan_t 64 (job Lock 1 256 4 ∷ job Write 0 4 4 ∷ answers (Pending ∷ []) ∷ answers (Pending ∷ []) ∷ ask 0 ∷ release 0 0 4 ∷ release 1 256 4 ∷ answers (Pending ∷ []) ∷ answers (Done ∷ []) ∷ ask 0 ∷ ask 1 ∷ [])
    ≡ number 0 ∷ number 0 ∷ devices (locked ∷ []) ∷ devices (locked ∷ []) ∷ info 0 0 0 0 0 2 ∷ number 16 ∷ number 0 ∷ devices (request 0 1 4 4 ∷ []) ∷ devices (nothing ∷ []) ∷ info 0 4 1 0 0 2 ∷ info 0 0 0 0 0 0 ∷ [])
    -- A retry does not keep the device against a higher area.
    × (prints plan_t 64 (job Write 0 4 4 ∷ answers (Pending ∷ []) ∷ job Write 1 256 4 ∷ answers (Failed 2 ∷ []) ∷ answers (Done ∷ []) ∷ answers (Done ∷ []) ∷ ask 0 ∷ [])
    ≡ number 0 ∷ devices (request 0 1 4 4 ∷ []) ∷ number 0 ∷ devices (request 1 1 32 4 ∷ []) ∷ devices (request 0 1 4 4 ∷ []) ∷ devices (nothing ∷ []) ∷ info 0 4 2 1 0 0 ∷ [])
    -- Two devices run side by side.
    × (prints plan_u 96 (job Write 0 16 4 ∷ job Write 1 0 4 ∷ answers (Pending ∷ Pending ∷ []) ∷ answers (Done ∷ Pending ∷ []) ∷ answers (Pending ∷ Done ∷ []) ∷ ask 0 ∷ ask 1 ∷ [])
    ≡ number 0 ∷ number 0 ∷ devices (request 1 1 48 4 ∷ request 0 1 64 4 ∷ []) ∷ devices (nothing ∷ request 0 1 64 4 ∷ []) ∷ devices (nothing ∷ nothing ∷ []) ∷ info 0 4 2 0 0 0 ∷ info 0 4 1 0 0 0 ∷ [])
    -- A job whose segment is done on device 1 goes on on device 0 in the same round, before a lower area: all answers come first.
    × (prints plan_u 96 (job Erase 0 16 32 ∷ answers (Pending ∷ Pending ∷ []) ∷ job Write 1 0 4 ∷ answers (Pending ∷ Done ∷ []) ∷ answers (Done ∷ Pending ∷ []) ∷ answers (Done ∷ Pending ∷ []) ∷ ask 0 ∷ ask 1 ∷ [])
    ≡ number 0 ∷ devices (nothing ∷ request 0 4 64 16 ∷ []) ∷ number 0 ∷ devices (request 0 4 16 16 ∷ nothing ∷ []) ∷ devices (request 1 1 48 4 ∷ nothing ∷ []) ∷ devices (nothing ∷ nothing ∷ []) ∷ info 0 32 2 0 0 0 ∷ info 0 4 1 1 0 0 ∷ [])
    -- Logical address 32 is at physical 16, which is no multiple of the sector burst 32; at physical 32 only one sector is left.
    × (prints plan_u 96 (job Erase 0 32 32 ∷ answers (Pending ∷ Pending ∷ []) ∷ answers (Done ∷ Pending ∷ []) ∷ answers (Done ∷ Pending ∷ []) ∷ ask 0 ∷ [])
    ≡ number 0 ∷ devices (request 0 4 16 16 ∷ nothing ∷ []) ∷ devices (request 0 4 32 16 ∷ nothing ∷ []) ∷ devices (nothing ∷ nothing ∷ []) ∷ info 0 32 2 0 0 0 ∷ [])
    -- The earlier accepted of two areas with one priority is above, whatever its number.
    × (prints plan_v 64 (job Write 1 256 4 ∷ job Write 0 4 4 ∷ answers (Pending ∷ []) ∷ answers (Done ∷ []) ∷ answers (Done ∷ []) ∷ ask 0 ∷ ask 1 ∷ [])
    ≡ number 0 ∷ number 0 ∷ devices (request 1 1 32 4 ∷ []) ∷ devices (request 0 1 4 4 ∷ []) ∷ devices (nothing ∷ []) ∷ info 0 4 1 1 0 0 ∷ info 0 4 1 0 0 0 ∷ [])
    -- A retry keeps its place.
    × (prints plan_v 64 (job Write 0 4 4 ∷ answers (Pending ∷ []) ∷ job Write 1 256 4 ∷ answers (Failed 0 ∷ []) ∷ answers (Done ∷ []) ∷ answers (Done ∷ []) ∷ ask 0 ∷ ask 1 ∷ [])
    ≡ number 0 ∷ devices (request 0 1 4 4 ∷ []) ∷ number 0 ∷ devices (request 0 1 4 4 ∷ []) ∷ devices (request 1 1 32 4 ∷ []) ∷ devices (nothing ∷ []) ∷ info 0 4 2 0 0 0 ∷ info 0 4 1 1 0 0 ∷ [])
    -- An area whose job is over comes last with its next one.
    × (prints plan_v 64 (job Write 0 4 12 ∷ job Write 1 256 8 ∷ answers (Pending ∷ []) ∷ answers (Done ∷ []) ∷ answers (Done ∷ []) ∷ job Write 0 0 4 ∷ answers (Done ∷ []) ∷ answers (Done ∷ []) ∷ answers (Done ∷ []) ∷ ask 0 ∷ ask 1 ∷ [])
    ≡ number 0 ∷ number 0 ∷ devices (request 0 1 4 4 ∷ []) ∷ devices (request 0 1 8 8 ∷ []) ∷ devices (request 1 1 32 4 ∷ []) ∷ number 0 ∷ devices (request 1 1 36 4 ∷ []) ∷ devices (request 0 1 0 4 ∷ []) ∷ devices (nothing ∷ []) ∷ info 0 4 1 1 0 0 ∷ info 0 8 2 2 0 0 ∷ [])
    -- A lock request has its place too.
    × (prints plan_v 64 (job Lock 1 256 4 ∷ job Write 0 4 4 ∷ answers (Pending ∷ []) ∷ ask 0 ∷ release 1 256 4 ∷ answers (Pending ∷ []) ∷ answers (Done ∷ []) ∷ ask 0 ∷ ask 1 ∷ [])
    ≡ number 0 ∷ number 0 ∷ devices (locked ∷ []) ∷ info 0 0 0 0 0 1 ∷ number 0 ∷ devices (request 0 1 4 4 ∷ []) ∷ devices (nothing ∷ []) ∷ info 0 4 1 0 0 1 ∷ info 0 0 0 0 0 0 ∷ [])
    -- An erase gives way with its polls: two before, the third drops it. The round that resumes it gives no poll.
    × (prints (plan_e 83 3) 64 (job Erase 0 0 16 ∷ answers (Pending ∷ []) ∷ answers (Pending ∷ []) ∷ job Read 1 256 4 ∷ answers (Pending ∷ []) ∷ ask 0 ∷ answers (Done ∷ []) ∷ answers (Pending ∷ []) ∷ ask 0 ∷ ask 1 ∷ [])
    ≡ number 0 ∷ devices (request 0 4 0 16 ∷ []) ∷ devices (request 0 4 0 16 ∷ []) ∷ number 0 ∷ devices (request 1 2 16 4 ∷ []) ∷ info 0 0 2 1 0 0 ∷ devices (request 0 4 0 16 ∷ []) ∷ devices (nothing ∷ []) ∷ info 1 0 3 1 0 0 ∷ info 0 4 1 0 0 0 ∷ [])
    -- A lock request suspends nothing, and a job below it does not either.
    × (prints (plan_e 83 3) 64 (job Erase 0 0 16 ∷ answers (Pending ∷ []) ∷ job Lock 2 512 4 ∷ job Read 1 256 4 ∷ answers (Pending ∷ []) ∷ answers (Pending ∷ []) ∷ answers (Done ∷ []) ∷ ask 2 ∷ ask 1 ∷ release 2 512 4 ∷ answers (Pending ∷ []) ∷ answers (Done ∷ []) ∷ ask 1 ∷ [])
    ≡ number 0 ∷ devices (request 0 4 0 16 ∷ []) ∷ number 0 ∷ number 0 ∷ devices (request 0 4 0 16 ∷ []) ∷ devices (request 0 4 0 16 ∷ []) ∷ devices (locked ∷ []) ∷ info 0 0 0 0 2 0 ∷ info 0 0 0 0 2 1 ∷ number 0 ∷ devices (request 1 2 16 4 ∷ []) ∷ devices (nothing ∷ []) ∷ info 0 4 1 0 2 1 ∷ [])
    -- An erase suspends no erase.
    × (prints (plan_e 83 3) 64 (job Erase 0 0 16 ∷ answers (Pending ∷ []) ∷ job Erase 1 256 16 ∷ answers (Pending ∷ []) ∷ answers (Done ∷ []) ∷ answers (Done ∷ []) ∷ ask 0 ∷ ask 1 ∷ [])
    ≡ number 0 ∷ devices (request 0 4 0 16 ∷ []) ∷ number 0 ∷ devices (request 0 4 0 16 ∷ []) ∷ devices (request 1 4 16 16 ∷ []) ∷ devices (nothing ∷ []) ∷ info 0 16 2 0 0 0 ∷ info 0 16 1 0 1 0 ∷ [])
    -- The next segment of the same job goes on over the suspended erase.
    × (prints (plan_e 83 3) 64 (job Erase 0 0 16 ∷ answers (Pending ∷ []) ∷ job Read 1 256 8 ∷ answers (Pending ∷ []) ∷ answers (Done ∷ []) ∷ answers (Done ∷ []) ∷ answers (Done ∷ []) ∷ ask 0 ∷ ask 1 ∷ [])
    ≡ number 0 ∷ devices (request 0 4 0 16 ∷ []) ∷ number 0 ∷ devices (request 1 2 16 4 ∷ []) ∷ devices (request 1 2 20 4 ∷ []) ∷ devices (request 0 4 0 16 ∷ []) ∷ devices (nothing ∷ []) ∷ info 0 16 2 2 0 0 ∷ info 0 8 2 0 0 0 ∷ [])
    -- Cancelled while it is suspended, an erase ends when its resumed request ends.
    × (prints (plan_e 83 3) 64 (job Erase 0 0 16 ∷ answers (Pending ∷ []) ∷ job Read 1 256 4 ∷ answers (Pending ∷ []) ∷ cancel 0 ∷ ask 0 ∷ answers (Done ∷ []) ∷ cancel 0 ∷ answers (Done ∷ []) ∷ ask 0 ∷ [])
    ≡ number 0 ∷ devices (request 0 4 0 16 ∷ []) ∷ number 0 ∷ devices (request 1 2 16 4 ∷ []) ∷ number 0 ∷ info 0 0 1 1 0 0 ∷ devices (request 0 4 0 16 ∷ []) ∷ number 0 ∷ devices (nothing ∷ []) ∷ info 3 16 2 1 0 0 ∷ [])
    -- No lock is given while an erase is suspended: it resumes before a lock request.
    × (prints (plan_e 83 3) 64 (job Erase 0 0 16 ∷ answers (Pending ∷ []) ∷ job Read 1 256 4 ∷ answers (Pending ∷ []) ∷ job Lock 2 512 4 ∷ answers (Done ∷ []) ∷ answers (Pending ∷ []) ∷ answers (Done ∷ []) ∷ ask 2 ∷ ask 0 ∷ [])
    ≡ number 0 ∷ devices (request 0 4 0 16 ∷ []) ∷ number 0 ∷ devices (request 1 2 16 4 ∷ []) ∷ number 0 ∷ devices (request 0 4 0 16 ∷ []) ∷ devices (request 0 4 0 16 ∷ []) ∷ devices (locked ∷ []) ∷ info 0 0 0 0 2 0 ∷ info 0 16 3 1 0 0 ∷ [])
    -- Two jobs one after the other over one suspended erase.
    × (prints (plan_e 83 3) 64 (job Erase 0 0 16 ∷ answers (Pending ∷ []) ∷ job Read 1 256 4 ∷ answers (Pending ∷ []) ∷ job Read 2 512 8 ∷ answers (Done ∷ []) ∷ answers (Done ∷ []) ∷ answers (Done ∷ []) ∷ ask 0 ∷ ask 1 ∷ ask 2 ∷ [])
    ≡ number 0 ∷ devices (request 0 4 0 16 ∷ []) ∷ number 0 ∷ devices (request 1 2 16 4 ∷ []) ∷ number 0 ∷ devices (request 2 2 32 8 ∷ []) ∷ devices (request 0 4 0 16 ∷ []) ∷ devices (nothing ∷ []) ∷ info 0 16 2 2 0 0 ∷ info 0 4 1 0 0 0 ∷ info 0 8 1 0 0 0 ∷ [])
    -- A lower segment and a resumed erase stand before area 2: twice the limit less one.
    × (prints (plan_e 83 2) 64 (job Erase 0 0 16 ∷ answers (Pending ∷ []) ∷ job Read 1 256 4 ∷ answers (Pending ∷ []) ∷ job Erase 2 512 16 ∷ answers (Pending ∷ []) ∷ answers (Done ∷ []) ∷ ask 2 ∷ answers (Done ∷ []) ∷ answers (Done ∷ []) ∷ ask 2 ∷ [])
    ≡ number 0 ∷ devices (request 0 4 0 16 ∷ []) ∷ number 0 ∷ devices (request 1 2 16 4 ∷ []) ∷ number 0 ∷ devices (request 1 2 16 4 ∷ []) ∷ devices (request 0 4 0 16 ∷ []) ∷ info 0 0 0 0 2 0 ∷ devices (request 2 4 32 16 ∷ []) ∷ devices (nothing ∷ []) ∷ info 0 16 1 0 2 0 ∷ [])
    -- Only an erase gives way.
    × (prints (plan_e 83 3) 64 (job Write 0 0 4 ∷ answers (Pending ∷ []) ∷ job Read 1 256 4 ∷ answers (Pending ∷ []) ∷ answers (Done ∷ []) ∷ answers (Done ∷ []) ∷ ask 0 ∷ ask 1 ∷ [])
    ≡ number 0 ∷ devices (request 0 1 0 4 ∷ []) ∷ number 0 ∷ devices (request 0 1 0 4 ∷ []) ∷ devices (request 1 2 16 4 ∷ []) ∷ devices (nothing ∷ []) ∷ info 0 4 2 0 0 0 ∷ info 0 4 1 0 1 0 ∷ [])
    -- On a chip that cannot suspend nothing gives way.
    × (prints (plan_e 86 3) 64 (job Erase 0 0 16 ∷ answers (Pending ∷ []) ∷ answers (Pending ∷ []) ∷ job Read 1 256 4 ∷ answers (Pending ∷ []) ∷ answers (Done ∷ []) ∷ answers (Done ∷ []) ∷ ask 0 ∷ ask 1 ∷ [])
    ≡ number 0 ∷ devices (request 0 4 0 16 ∷ []) ∷ devices (request 0 4 0 16 ∷ []) ∷ number 0 ∷ devices (request 0 4 0 16 ∷ []) ∷ devices (request 1 2 16 4 ∷ []) ∷ devices (nothing ∷ []) ∷ info 0 16 3 0 0 0 ∷ info 0 4 1 0 1 0 ∷ [])
    -- An erase that was cancelled while it ran can be suspended too; it is over when its resumed request ends.
    × (prints (plan_e 83 3) 64 (job Erase 0 0 16 ∷ answers (Pending ∷ []) ∷ cancel 0 ∷ job Read 1 256 4 ∷ answers (Pending ∷ []) ∷ answers (Done ∷ []) ∷ ask 0 ∷ answers (Failed 0 ∷ []) ∷ ask 0 ∷ [])
    ≡ number 0 ∷ devices (request 0 4 0 16 ∷ []) ∷ number 0 ∷ number 0 ∷ devices (request 1 2 16 4 ∷ []) ∷ devices (request 0 4 0 16 ∷ []) ∷ info 0 0 2 1 0 0 ∷ devices (nothing ∷ []) ∷ info 3 0 2 1 0 0 ∷ [])
    -- Zeros stay zeros under a write of 255 on a chip that only clears bits: the comparison finds them. Others store.
    × (prints (plan_e 70 3) 64 (rewrites 0 0 (answers (Done ∷ []) ∷ []) 4) ≡ rewrites_print 0 0 (devices (nothing ∷ []) ∷ []) 4 (info 2 0 1 0 0 0))
    × (prints (plan_e 83 3) 64 (rewrites 0 0 (answers (Done ∷ []) ∷ []) 4) ≡ rewrites_print 0 0 (devices (nothing ∷ []) ∷ []) 4 (info 0 4 1 0 0 0))
    -- So do the first bytes of a failed write.
    × (prints (plan_e 70 3) 64 (rewrites 0 0 (answers (Failed 2 ∷ []) ∷ ask 0 ∷ []) 2)
    ≡ rewrites_print 0 0 (devices (nothing ∷ []) ∷ info 1 0 1 0 0 0 ∷ []) 2 (info 2 0 1 0 0 0))
    × (prints (plan_e 83 3) 64 (rewrites 0 0 (answers (Failed 2 ∷ []) ∷ ask 0 ∷ []) 2)
    ≡ rewrites_print 0 0 (devices (nothing ∷ []) ∷ info 1 0 1 0 0 0 ∷ []) 2 (info 0 2 1 0 0 0))
    -- Also before a retry,
    × (prints (plan_e 70 3) 64 (rewrites 1 256 (answers (Failed 2 ∷ []) ∷ answers (Failed 0 ∷ []) ∷ ask 1 ∷ []) 2)
    ≡ rewrites_print 1 16 (devices (request 1 1 16 4 ∷ []) ∷ devices (nothing ∷ []) ∷ info 1 0 2 0 0 0 ∷ []) 2 (info 2 0 1 0 0 0))
    × (prints (plan_e 83 3) 64 (rewrites 1 256 (answers (Failed 2 ∷ []) ∷ answers (Failed 0 ∷ []) ∷ ask 1 ∷ []) 2)
    ≡ rewrites_print 1 16 (devices (request 1 1 16 4 ∷ []) ∷ devices (nothing ∷ []) ∷ info 1 0 2 0 0 0 ∷ []) 2 (info 0 2 1 0 0 0))
    -- and of a job that was cancelled.
    × (prints (plan_e 70 3) 64 (rewrites 1 256 (cancel 1 ∷ answers (Failed 2 ∷ []) ∷ ask 1 ∷ []) 2)
    ≡ rewrites_print 1 16 (number 0 ∷ devices (nothing ∷ []) ∷ info 3 0 1 0 0 0 ∷ []) 2 (info 2 0 1 0 0 0))
    × (prints (plan_e 83 3) 64 (rewrites 1 256 (cancel 1 ∷ answers (Failed 2 ∷ []) ∷ ask 1 ∷ []) 2)
    ≡ rewrites_print 1 16 (number 0 ∷ devices (nothing ∷ []) ∷ info 3 0 1 0 0 0 ∷ []) 2 (info 0 2 1 0 0 0))
    -- An erase gives way there too.
    × (prints (plan_e 70 3) 64 (job Erase 0 0 16 ∷ answers (Pending ∷ []) ∷ job Read 1 256 4 ∷ answers (Pending ∷ []) ∷ answers (Done ∷ []) ∷ answers (Done ∷ []) ∷ ask 0 ∷ ask 1 ∷ [])
    ≡ number 0 ∷ devices (request 0 4 0 16 ∷ []) ∷ number 0 ∷ devices (request 1 2 16 4 ∷ []) ∷ devices (request 0 4 0 16 ∷ []) ∷ devices (nothing ∷ []) ∷ info 0 16 2 1 0 0 ∷ info 0 4 1 0 0 0 ∷ [])
    -- A burst that is no power of two, on its multiples: 24 is one of 12, while 16 and 20 are none; 24 is one of 24, 12 is none, and at 48 too few bytes are left.
    × (prints plan_w 96 (job Write 0 4 20 ∷ answers (Done ∷ []) ∷ answers (Done ∷ []) ∷ answers (Done ∷ []) ∷ answers (Done ∷ []) ∷ ask 0 ∷ job Erase 0 0 48 ∷ answers (Done ∷ []) ∷ answers (Done ∷ []) ∷ answers (Done ∷ []) ∷ answers (Done ∷ []) ∷ ask 0 ∷ [])
    ≡ number 0 ∷ devices (request 0 1 16 4 ∷ []) ∷ devices (request 0 1 20 4 ∷ []) ∷ devices (request 0 1 24 12 ∷ []) ∷ devices (nothing ∷ []) ∷ info 0 20 3 0 0 0 ∷ number 0 ∷ devices (request 0 4 12 12 ∷ []) ∷ devices (request 0 4 24 24 ∷ []) ∷ devices (request 0 4 48 12 ∷ []) ∷ devices (nothing ∷ []) ∷ info 0 48 3 0 0 0 ∷ [])
unfolding Bounded.every Bounded.some Bounded.sum FirstNo.first_no FirstNo.ask FirstNo.or_else Listed.listed Multiples.multiple Tables.table Parts.part Parts.put Parts.upd Number.number_at Records.device_at Records.area_at Records.granularity_at Records.sub_area_at Records.is_record Records.records_up_to Records.records_from Records.device_count_of Records.areas_start_of Records.area_count_of Records.sub_areas_start_of Records.sub_area_count_of Records.records_end Records.wear_start_of Records.wear_count_of Records.record_layout Records.plan_of Records.empty_plan Questions.apart Questions.whole_records Questions.counts_fit Questions.device_due Questions.device_joins Questions.devices_join Questions.windows_apart Questions.windows_fit Questions.granularity_fits Questions.sizes_fit Questions.inside_device Questions.is_placed Questions.all_placed Questions.size_in Questions.space_fits Questions.spaces_fit Questions.sub_areas_apart Questions.record_questions Questions.plan_questions Questions.load_number Questions.loaded_plan Mapping.find Mapping.mapped Segments.burst_or_unit Segments.segment_at Segments.cut Segments.segments_from Segments.spans_after Segments.spans Segments.own_sum Segments.below_sum Segments.own_bound Segments.below_bound Ranks.ages_after Ranks.rank_above Layout.layout_of Machine.job_failed Machine.job_finished Machine.job_differs Machine.take_answer Machine.first_half Machine.ready Machine.best Machine.start_device Machine.second_half Machine.wait_behind Machine.cancel Machine.begin Machine.release Admission.is_inside Admission.is_aligned Admission.fits_window Admission.on_one_device Admission.range_device Admission.job_questions Admission.release_questions Admission.cancel_questions Admission.info_questions Admission.memory_info_questions Admission.image_fits Admission.store_reaches Admission.job_number Admission.release_number Admission.cancel_number Admission.info_number Admission.memory_info_number Admission.round_number Admission.admits Round.take_in Round.take_all Round.round_halves History.fresh_history History.round_of History.submitted History.step History.run Session.shown_to Session.entry_of Session.play_line Session.play
closed_runs = (refl, refl, refl, refl, refl, refl, refl, refl, refl, refl, refl, refl, refl, refl, refl, refl, refl, refl, refl, refl, refl, refl, refl, refl, refl, refl, refl, refl, refl, refl, refl, refl, refl, refl, refl)
