-- What a request reads, of which time, and in which form its result is returned.
use Rattle.std.proofs.Common.{◌≡◌, ℕ, ◌<◌, ◌≤◌, refl, sym, ap, subst, ◌∙◌, arith, Bool}
use Rattle.std.specs.Prelude.{Option, Some, None, Result, Ok, true, false, max, nat_le, if◌then◌else◌}
use Rattle.std.specs.List.{list_all}
use Rattle.std.specs.Option.{unwrap_or}
use Rattle.std.proofs.lemmas.Bool.{leb-true, leb-false}
use Rattle.base_model.specs.Refusals.{Refusal}
use Rattle.command_model.specs.Command.{Command, find_command, count_command, command_of}
use Rattle.command_model.specs.Find.{Find}
use Rattle.command_model.specs.Reading.{Reading}
use Rattle.base_model.specs.Identities.{RequestId}
use Rattle.reply_model.specs.Exchanges.{Asked, Answered}
use Rattle.pipeline_model.specs.Stages.{has_int64}
use Rattle.reply_model.specs.Reads.{IfReached, IsTimeRead, named_time, own_time, later_time, time_wanted}
use Rattle.reply_model.specs.Right.{Reads, find_reads, count_reads}
use Rattle.node_model.specs.States.{Telling}
use Rattle.command_model.proofs.Taken.{int64_of_find, int64_of_count}
use Rattle.node_laws.proofs.Views.{View, chosen_time}
use Rattle.node_laws.proofs.ReadFacts.{IsTimeAt, is_named, is_own, is_reached, IsAwaited, IsTelling, tells_find, tells_count}

pub reads_of : (a : Asked) (read : Reading) (telling : Telling) → IsTelling a read telling → Reads (command_of a.request) read
reads_of a _ _ (tells_find find asks) = subst (λ c. Reads c find.reading) (sym asks) (find_reads find)
reads_of a _ _ (tells_count read asks) = subst (λ c. Reads c read) (sym asks) (count_reads read)

-- a request reads one thing
same_find : (find : Find) (command : Result Command Refusal) (other : Reading) → command ≡ Ok (find_command find) → Reads command other → find.reading ≡ other
same_find find _ _ e (find_reads g) = let same : g ≡ find = cc in ap (λ (f : Find). f.reading) (sym same)
same_find find _ _ e (count_reads read) = absurd (cc)

same_count : (read : Reading) (command : Result Command Refusal) (other : Reading) → command ≡ Ok (count_command read) → Reads command other → read ≡ other
same_count read _ _ e (find_reads g) = absurd (cc)
same_count read _ _ e (count_reads other) = cc

pub one_reading : (command : Result Command Refusal) (a b : Reading) → Reads command a → Reads command b → a ≡ b
one_reading _ _ b (find_reads find) other = same_find find (Ok (find_command find)) b refl other
one_reading _ _ b (count_reads read) other = same_count read (Ok (count_command read)) b refl other

-- of two requests that are one too
pub reads_same : (a b : Asked) (x y : Reading) → a ≡ b → Reads (command_of a.request) x → Reads (command_of b.request) y → x ≡ y
reads_same a b x y same p q = one_reading (command_of b.request) x y (subst (λ (c : Asked). Reads (command_of c.request) x) same p) q

pub read_int64 : (a : Asked) (read : Reading) (telling : Telling) → IsTelling a read telling → list_all has_int64 read.stages ≡ true
read_int64 a _ _ (tells_find find asks) = int64_of_find a.request find asks
read_int64 a _ _ (tells_count read asks) = int64_of_count a.request read asks

-- TIMES

-- once its time is reached, it is a time that its reply may have
pub read_time : (a : Asked) (t : Answered) (read : Reading) (at : ℕ) (named : Bool) → IsTimeAt a read at named → at ≤ t.time → IsTimeRead a t read at
read_time a t read at _ (is_named names) past = named_time at names past
read_time a t read at _ (is_own none reached same) past = subst (λ n. IsTimeRead a t read n) (sym same) (own_time none reached)
read_time a t read at _ (is_reached after none wants less reached) past = later_time at after none wants less reached past

-- what a request is planned to read at
abbrev pub first_time : (time : ℕ) → (after : Option ℕ) → ℕ
first_time time after = max time (unwrap_or after 0)

pub planned_time : (a : Asked) (read : Reading) (time : ℕ) (after : Option ℕ) → a.time ≡ time → read.at ≡ None → read.after ≡ after
    → IsTimeAt a read (first_time time after) false
planned_time a read time None same none wants = is_own none (subst (λ o. IfReached o a.time) (sym wants) tt) (omega arith)
planned_time a read time (Some after) same none wants = by_test (nat_le after time) refl
  where
    by_test : (b : Bool) → nat_le after time ≡ b → IsTimeAt a read (max time after) false
    by_test true h = let le : after ≤ time = leb-true _ _ h in is_own none (subst (λ o. IfReached o a.time) (sym wants) (omega arith)) (omega arith)
    by_test false h = let less : time < after = leb-false _ _ h in is_reached after none wants (omega arith) (omega arith)

-- a time that is ahead is one that it wants
ahead_wanted : (read : Reading) (time : ℕ) (after : Option ℕ) → read.at ≡ None → read.after ≡ after → time < first_time time after
    → time_wanted read ≡ Some (first_time time after)
ahead_wanted read time None none wants ahead = absurd (omega arith)
ahead_wanted read time (Some after) none wants ahead =
    ap (λ o. elim o as (λ (x : Option ℕ). Option ℕ) [ None ↦ read.after | Some named ↦ Some named ]) none ∙ wants
    ∙ ap (λ n. Some n) (let same : after ≡ max time after = omega arith in same)

pub awaits_first : (v : View) (a : Asked) (id : RequestId) (read : Reading) (time : ℕ) (after : Option ℕ) → Reads (command_of a.request) read → a.time ≡ time
    → read.at ≡ None
    → read.after ≡ after → time < first_time time after → chosen_time id v.chosen ≡ None → IsAwaited v a id (first_time time after)
awaits_first v a id read time after reads same none wants ahead undecided =
    record { read = read; reads = reads; wanted = ahead_wanted read time after none wants ahead; ahead = omega arith; undecided = undecided }

pub awaits_named : (v : View) (a : Asked) (id : RequestId) (read : Reading) (time named : ℕ) → Reads (command_of a.request) read → a.time ≡ time
    → read.at ≡ Some named
    → time < named → chosen_time id v.chosen ≡ None → IsAwaited v a id named
awaits_named v a id read time named reads same names ahead undecided = record {
  read = read;
  reads = reads;
  wanted = ap (λ o. elim o as (λ (x : Option ℕ). Option ℕ) [ None ↦ read.after | Some n ↦ Some n ]) names;
  ahead = omega arith;
  undecided = undecided;
}

-- where the time that was wanted is reached, a read that names none is of the later one
pub reached_time : (v : View) (a : Asked) (id : RequestId) (read : Reading) (at time : ℕ) (named : Bool) → Reads (command_of a.request) read
    → IsTimeAt a read at named
    → IsAwaited v a id at → at ≤ time → IsTimeAt a read (if named then at else time) named
reached_time v a id read at time _ reads (is_named names) waits le = is_named names
reached_time v a id read at time _ reads (is_own none reached same) waits le = absurd (let less = waits.ahead in omega arith)
reached_time v a id read at time _ reads (is_reached after none wants less reached) waits le = is_reached after none wants less (omega arith)
