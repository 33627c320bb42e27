-- What a command decides of its input, from what the parts of the work answer.
use Rattle.std.proofs.Common.{◌≡◌, ◌≢◌, ◌∙◌, ◌<◌, ◌≤◌, ◌+◌, ℕ, zero, suc, List, [], ◌∷◌, ◌++◌, length, map, refl, ap, sym, subst, inl, inr, Option, Some, None, Result, Ok, Err, IfSome, IfErr, IsTrue, IsErrAnd}
use Rattle.std.proofs.Common.{Bool, true, false, if◌then◌else◌, arith}
use Rattle.std.specs.Prelude.{option_map}
use Rattle.std.specs.List.{range_with_len}
use Rattle.std.specs.Io.KnownBytes.{IsAtEnd}
use Rattle.std.proofs.lemmas.Bool.{cases_lt}
use Rattle.serde_json.specs.Data.{Data}
use Rattle.gm_io.specs.Limit.{input_limit}
use Rattle.gm_io.specs.Source.{AreAllLeft}
use Rattle.gm_config.specs.Config.{ConfigValue}
use Rattle.gm_config.specs.Reading.{config_of, IsTextOf, BreaksFirst, HasNoReading}
use Rattle.gm_config.specs.Rule.{first_broken}
use Rattle.gm_config.specs.Rules.{rules}
use Rattle.gm_config.specs.declared.errors.ConfigError.{ConfigError}
use Rattle.gm_config.specs.declared.errors.ConfigError.TheVariants as config
use Rattle.gm_config.specs.declared.errors.ConfigFault.TheVariants as fault
use Rattle.gm_config.proofs.ConfigLemmas.{IsConfig-first_broken}
use Rattle.sel_algebra.specs.declared.vocabulary.Class.{Class}
use Rattle.sel_algebra.specs.declared.vocabulary.Shape.{Shape}
use Rattle.query_draw.specs.declared.missing.NoSuchQuery.{NoSuchQuery}
use Rattle.query_draw.specs.Query.{drawn_shape, drawn_class, has_query}
use Rattle.query_draw.specs.Missing.{IsFirst}
use Rattle.edge_match.specs.declared.errors.TooManyStubs.{TooManyStubs}
use Rattle.edge_match.specs.Limit.{IsWithinLimit, IsFirstOver}
use Rattle.workload_text.specs.Values.{WorkValue}
use Rattle.workload_text.specs.Rules.{Verdict, verdict_of, IsFirstBroken}
use Rattle.workload_text.specs.declared.reader.WorkloadError.{WorkloadError}
use Rattle.workload_text.specs.declared.reader.WorkloadError.TheVariants as workload
use Rattle.workload_text.proofs.ReadingLemmas.{reading}
use Rattle.gm_top.specs.declared.commands.Command.{Command}
use Rattle.gm_top.specs.declared.commands.Command.TheVariants.{Translate, Generate, Sample}
use Rattle.gm_top.specs.declared.outcomes.Outcome.{Outcome}
use Rattle.gm_top.specs.declared.outcomes.Outcome.TheVariants as outcome
use Rattle.gm_top.specs.declared.work.Work.{Work}
use Rattle.gm_top.specs.declared.work.Work.TheVariants.{Queries, Files, Sampled}
use Rattle.gm_top.specs.Command.{input_of, CanBeAsked, reads}
use Rattle.gm_config.specs.Sample.{sample_of}
use Rattle.gm_top.proofs.SampleLemmas.{sample-accepted}
use Rattle.gm_top.specs.Outcome.{config_outcome, workload_outcome, broken_outcome, missing_outcome, stubs_outcome, is_decision, is_of_deciding}
use Rattle.gm_top.specs.Decision.{first_refusal, config_refusal, query_refusal, side_refusal, files_decision, text_decision, IsRefusalOf, IsDecision, Decides}
use Rattle.gm_top.specs.Generation.{GenerationValue, CanDraw}
use Rattle.gm_top.specs.Outputs.{IsAccepted}
use Rattle.gm_top.specs.Run.{IsReadWhole, IsTooLong}

-- ---- the first of some refusals

skip : (o : Option Outcome) (refusals : List (Option Outcome)) (work : Work) → o ≡ None → first_refusal (o ∷ refusals) work ≡ first_refusal refusals work
skip None refusals work none = refl
skip (Some refusal) refusals work none = absurd (cc)

stop : (o : Option Outcome) (refusals : List (Option Outcome)) (work : Work) (refusal : Outcome) → o ≡ Some refusal → first_refusal (o ∷ refusals) work ≡ Err refusal
stop None refusals work refusal is = absurd (cc)
stop (Some other) refusals work refusal is = cc

passed : (o : Option Outcome) (refusals : List (Option Outcome)) (work done : Work) → first_refusal (o ∷ refusals) work ≡ Ok done
    → (o ≡ None) × (first_refusal refusals work ≡ Ok done)
passed None refusals work done is = (refl, is)
passed (Some refusal) refusals work done is = absurd (cc)

none_refused : (test : ℕ → Option Outcome) (work : Work) (a n : ℕ) → ((c : ℕ) → a ≤ c → c < a + n → test c ≡ None)
    → first_refusal (map test (range_with_len a n)) work ≡ Ok work
none_refused test work a zero none = refl
none_refused test work a (suc n) none =
    skip (test a) (map test (range_with_len (a + 1) n)) work (none a (omega arith) (omega arith))
    ∙ none_refused test work (a + 1) n (λ c le lt. none c (omega arith) (omega arith))

first_refused : (test : ℕ → Option Outcome) (work : Work) (refusal : Outcome) (a n c : ℕ) → a ≤ c → c < a + n → test c ≡ Some refusal
    → ((b : ℕ) → a ≤ b → b < c → test b ≡ None) → first_refusal (map test (range_with_len a n)) work ≡ Err refusal
first_refused test work refusal a zero c le lt here before = absurd (omega arith)
first_refused test work refusal a (suc n) c le lt here before =
    elim (cases_lt a c) [
      | inl less ↦
          skip (test a) (map test (range_with_len (a + 1) n)) work (before a (omega arith) less)
          ∙ first_refused test work refusal (a + 1) n c (omega arith) (omega arith) here (λ b le' lt'. before b (omega arith) lt')
      | inr same ↦
          let at : a ≡ c = omega arith in
          stop (test a) (map test (range_with_len (a + 1) n)) work refusal (ap test at ∙ here)
    ]

all_passed : (test : ℕ → Option Outcome) (work done : Work) (a n : ℕ) → first_refusal (map test (range_with_len a n)) work ≡ Ok done
    → (done ≡ work) × ((c : ℕ) → a ≤ c → c < a + n → test c ≡ None)
all_passed test work done a zero is = ((cc), λ c le lt. absurd (omega arith))
all_passed test work done a (suc n) is =
    let head = passed (test a) (map test (range_with_len (a + 1) n)) work done is in
    let rest = all_passed test work done (a + 1) n head.1 in (
      rest.0,
      λ c le lt.
          elim (cases_lt a c) [
            | inl less ↦ rest.1 c (omega arith) (omega arith)
            | inr same ↦ let at : c ≡ a = omega arith in ap test at ∙ head.0
          ],
    )

unmapped : {A : Type 0} (f : A → Outcome) (o : Option A) → option_map f o ≡ None → o ≡ None
unmapped f None none = refl
unmapped f (Some x) none = absurd (cc)

-- ---- some refusals, and then others

append-passed : (refusals others : List (Option Outcome)) (work : Work) → first_refusal refusals work ≡ Ok work
    → first_refusal (refusals ++ others) work ≡ first_refusal others work
append-passed [] others work is = refl
append-passed (None ∷ refusals) others work is = append-passed refusals others work is
append-passed (Some refusal ∷ refusals) others work is = absurd (cc)

append-refused : (refusals others : List (Option Outcome)) (work : Work) (refusal : Outcome) → first_refusal refusals work ≡ Err refusal
    → first_refusal (refusals ++ others) work ≡ Err refusal
append-refused [] others work refusal is = absurd (cc)
append-refused (None ∷ refusals) others work refusal is = append-refused refusals others work refusal is
append-refused (Some first ∷ refusals) others work refusal is = is

passed-append : (refusals others : List (Option Outcome)) (work done : Work) → first_refusal (refusals ++ others) work ≡ Ok done
    → (first_refusal refusals work ≡ Ok work) × (first_refusal others work ≡ Ok done)
passed-append [] others work done is = (refl, is)
passed-append (None ∷ refusals) others work done is = passed-append refusals others work done is
passed-append (Some refusal ∷ refusals) others work done is = absurd (cc)

-- ---- a query that can be drawn, or can't

query-passes : (config : ConfigValue) (seed number : ℕ) → has_query config seed number ≡ true → query_refusal config seed number ≡ None
query-passes config seed number has =
    ap (λ (has : Bool). if has then None else Some (outcome.NoSuchQuery number (drawn_shape config seed number) (drawn_class config seed number))) has

query-refused : (config : ConfigValue) (seed : ℕ) (missing : NoSuchQuery) → IsFirst config seed missing
    → query_refusal config seed missing.query ≡ Some (missing_outcome missing)
query-refused config seed missing first =
    let n = missing.query in
    ap (λ (has : Bool). if has then None else Some (outcome.NoSuchQuery n (drawn_shape config seed n) (drawn_class config seed n))) first.none
    ∙ ap (λ (shape : Shape). Some (outcome.NoSuchQuery n shape (drawn_class config seed n))) (sym first.shape)
    ∙ ap (λ (class : Class). Some (outcome.NoSuchQuery n missing.shape class)) (sym first.class)

has-unrefused : (has : Bool) (refusal : Outcome) → (if has then None else Some refusal) ≡ None → has ≡ true
has-unrefused true refusal none = refl
has-unrefused false refusal none = absurd (cc)

-- ---- a value that was read

-- what it is, with a seed
abbrev pub generation_of : Data → ℕ → GenerationValue
generation_of d seed = record { config = config_of d; seed = seed }

pub decides-files : (seed : ℕ) (d : Data) → first_broken rules d ≡ None → CanDraw (config_of d) seed → IsWithinLimit (config_of d) seed
    → files_decision seed (Some d) ≡ Ok (Files (generation_of d seed))
unfolding files_decision
decides-files seed d none can within =
    let config = config_of d in
    let work = Files (generation_of d seed) in
    let queries = map (query_refusal config seed) (range_with_len 0 config.workload.queries) in
    let sides = map (side_refusal config seed) (range_with_len 0 (length config.constraints)) in
    skip (config_refusal d) (queries ++ sides) work (ap (option_map broken_outcome) none)
    ∙ append-passed queries sides work (none_refused (query_refusal config seed) work 0 _ (λ n le lt. query-passes config seed n (can n (omega arith))))
    ∙ none_refused (side_refusal config seed) work 0 _ (λ c le lt. ap (option_map stubs_outcome) (within c (omega arith)))

decides-missing : (seed : ℕ) (d : Data) (missing : NoSuchQuery) → first_broken rules d ≡ None → IsFirst (config_of d) seed missing
    → files_decision seed (Some d) ≡ Err (missing_outcome missing)
unfolding files_decision
decides-missing seed d missing none first =
    let config = config_of d in
    let work = Files (generation_of d seed) in
    let queries = map (query_refusal config seed) (range_with_len 0 config.workload.queries) in
    let sides = map (side_refusal config seed) (range_with_len 0 (length config.constraints)) in
    skip (config_refusal d) (queries ++ sides) work (ap (option_map broken_outcome) none)
    ∙ append-refused queries sides work (missing_outcome missing)
    (first_refused (query_refusal config seed) work (missing_outcome missing) 0 config.workload.queries missing.query (omega arith) (omega (arith, first.within))
    (query-refused config seed missing first) (λ b le lt. query-passes config seed b (first.before b lt)))

decides-stubs : (seed : ℕ) (d : Data) (over : TooManyStubs) → first_broken rules d ≡ None → CanDraw (config_of d) seed → IsFirstOver (config_of d) seed over
    → files_decision seed (Some d) ≡ Err (stubs_outcome over)
unfolding files_decision
decides-stubs seed d over none can first =
    let config = config_of d in
    let work = Files (generation_of d seed) in
    let queries = map (query_refusal config seed) (range_with_len 0 config.workload.queries) in
    let sides = map (side_refusal config seed) (range_with_len 0 (length config.constraints)) in
    skip (config_refusal d) (queries ++ sides) work (ap (option_map broken_outcome) none)
    ∙ append-passed queries sides work (none_refused (query_refusal config seed) work 0 _ (λ n le lt. query-passes config seed n (can n (omega arith))))
    ∙ first_refused (side_refusal config seed) work (stubs_outcome over) 0 _ over.constraint (omega arith) (omega (arith, first.constraint))
    (ap (option_map stubs_outcome) first.here) (λ b le lt. ap (option_map stubs_outcome) (first.before b lt))

decides-broken : (seed : ℕ) (d : Data) (first : ℕ × ℕ) → first_broken rules d ≡ Some first → files_decision seed (Some d) ≡ Err (broken_outcome first)
unfolding files_decision
decides-broken seed d first broken = stop (config_refusal d) _ _ _ (ap (option_map broken_outcome) broken)

decided-files : (seed : ℕ) (d : Data) (work : Work) → files_decision seed (Some d) ≡ Ok work
    → (first_broken rules d ≡ None) × CanDraw (config_of d) seed × IsWithinLimit (config_of d) seed × (work ≡ Files (generation_of d seed))
unfolding files_decision
decided-files seed d work is =
    let config = config_of d in
    let wanted = Files (generation_of d seed) in
    let head = passed (config_refusal d) _ wanted work is in
    let parts = passed-append (map (query_refusal config seed) (range_with_len 0 config.workload.queries)) _ wanted work head.1 in
    let queries = all_passed (query_refusal config seed) wanted wanted 0 _ parts.0 in
    let sides = all_passed (side_refusal config seed) wanted work 0 _ parts.1 in (
      unmapped broken_outcome (first_broken rules d) head.0,
      (λ n lt. has-unrefused _ _ (queries.1 n (omega arith) (omega arith))),
      (λ c lt. unmapped stubs_outcome _ (sides.1 c (omega arith) (omega arith))),
      sides.0,
    )

-- ---- what is decided of bytes

pub IsDecision-files : (seed : ℕ) (bytes : List ℕ) (value : ConfigValue) → IsTextOf bytes value → CanDraw value seed → IsWithinLimit value seed
    → IsDecision (Generate seed) bytes (Ok (Files (record { config = value; seed = seed })))
IsDecision-files seed bytes value (d, reads, none, same) can within = (
  Some d,
  reads,
  ap (λ (v : ConfigValue). Ok (Files (record { config = v; seed = seed }))) same
      ∙ sym (decides-files seed d none (subst (λ (v : ConfigValue). CanDraw v seed) same can) (subst (λ (v : ConfigValue). IsWithinLimit v seed) same within)),
)

pub IsDecision-missing : (seed : ℕ) (bytes : List ℕ) (value : ConfigValue) (missing : NoSuchQuery) (answer : Outcome) → IsTextOf bytes value
    → IsFirst value seed missing → answer ≡ missing_outcome missing → IsDecision (Generate seed) bytes (Err answer)
IsDecision-missing seed bytes value missing answer (d, reads, none, same) first is = (
  Some d,
  reads,
  ap (λ a. Err a) is ∙ sym (decides-missing seed d missing none (subst (λ (v : ConfigValue). IsFirst v seed missing) same first)),
)

pub IsDecision-stubs : (seed : ℕ) (bytes : List ℕ) (value : ConfigValue) (over : TooManyStubs) (answer : Outcome) → IsTextOf bytes value
    → CanDraw value seed → IsFirstOver value seed over → answer ≡ stubs_outcome over → IsDecision (Generate seed) bytes (Err answer)
IsDecision-stubs seed bytes value over answer (d, reads, none, same) can first is = (
  Some d,
  reads,
  ap (λ a. Err a) is
      ∙ sym (decides-stubs seed d over none (subst (λ (v : ConfigValue). CanDraw v seed) same can) (subst (λ (v : ConfigValue). IsFirstOver v seed over) same first)),
)

-- a configuration that keeps its rules and is refused, or not
pub IsDecision-refused : (seed : ℕ) (bytes : List ℕ) (value : ConfigValue) (g : GenerationValue) (refusal : Outcome) → IsTextOf bytes value
    → g ≡ record { config = value; seed = seed } → IsRefusalOf g (Some refusal) → IsDecision (Generate seed) bytes (Err refusal)
IsDecision-refused seed bytes value g refusal text same why = refused (subst (λ (g : GenerationValue). IsRefusalOf g (Some refusal)) same why)
  where
    refused : IsRefusalOf (record { config = value; seed = seed }) (Some refusal) → IsDecision (Generate seed) bytes (Err refusal)
    refused (inl (missing, first, is)) = IsDecision-missing seed bytes value missing refusal text first is
    refused (inr (over, can, first, is)) = IsDecision-stubs seed bytes value over refusal text can first is

pub IsDecision-accepted : (seed : ℕ) (bytes : List ℕ) (value : ConfigValue) (g : GenerationValue) → IsTextOf bytes value
    → g ≡ record { config = value; seed = seed } → IsRefusalOf g None → IsDecision (Generate seed) bytes (Ok (Files g))
IsDecision-accepted seed bytes value g text same none =
    let is = subst (λ (g : GenerationValue). IsRefusalOf g None) same none in
    subst (λ (g : GenerationValue). IsDecision (Generate seed) bytes (Ok (Files g))) (sym same) (IsDecision-files seed bytes value text is.0 is.1)

-- bytes of which no configuration was read
pub IsDecision-unread : (result : Result Work Outcome) (seed : ℕ) (bytes : List ℕ) (read : Result ConfigValue ConfigError) (error : ConfigError)
    → read ≡ Err error → IsErrAnd result (λ answer. answer ≡ config_outcome error)
    → ((rule index : ℕ) → read ≡ Err (config.Fault (fault.Broken rule index)) → BreaksFirst bytes rule index)
    → (read ≡ Err (config.Fault fault.NotJson) → HasNoReading bytes)
    → result ≢ Err outcome.NoMemory → IsDecision (Generate seed) bytes result
unfolding files_decision
IsDecision-unread (Ok work) seed bytes read error failed is broken none other = absurd is
IsDecision-unread (Err answer) seed bytes read config.NoMemory failed is broken none other = absurd (other (ap (λ a. Err a) is))
IsDecision-unread (Err answer) seed bytes read (config.Fault fault.NotJson) failed is broken none other = (None, none failed, not_json)
  where
    not_json : ◌≡◌ {A = Result Work Outcome} (Err answer) (files_decision seed None)
    not_json = ap (λ a. Err a) is
IsDecision-unread (Err answer) seed bytes read (config.Fault (fault.Broken rule index)) failed is broken none other =
    let found = broken rule index failed in
    (Some found.0, found.1, ap (λ a. Err a) is ∙ sym (decides-broken seed found.0 (rule, index) found.2))

pub IsDecision-memory : {P : Type 0} (result : Result Work Outcome) → IsErrAnd result (λ answer. answer ≡ outcome.NoMemory) → result ≢ Err outcome.NoMemory → P
IsDecision-memory (Ok work) is other = absurd is
IsDecision-memory (Err answer) is other = absurd (other (ap (λ a. Err a) is))

pub stops-memory : (result : Result Work Outcome) → IsErrAnd result (λ answer. answer ≡ outcome.NoMemory) → IfErr result (λ answer. IsTrue (is_of_deciding answer))
stops-memory (Ok work) is = tt
stops-memory (Err answer) is = rw is refl

pub stops-refusal : (g : GenerationValue) (refusal : Outcome) → IsRefusalOf g (Some refusal) → IsTrue (is_of_deciding refusal)
stops-refusal g refusal (inl (missing, first, is)) = rw is refl
stops-refusal g refusal (inr (over, can, first, is)) = rw is refl

-- a workload text that was read
pub IsDecision-text : (bytes : List ℕ) (v : WorkValue) → verdict_of bytes ≡ Ok v → IsDecision Translate bytes (Ok (Queries v))
IsDecision-text bytes v is = sym (ap text_decision is)

-- bytes of which no workload was read
pub IsDecision-not_text : (result : Result Work Outcome) (bytes : List ℕ) (read : Result WorkValue WorkloadError) (error : WorkloadError)
    → read ≡ Err error → IsErrAnd result (λ answer. answer ≡ workload_outcome error)
    → ((line rule : ℕ) → read ≡ Err (workload.BadWorkload line rule) → IsFirstBroken bytes line rule)
    → result ≢ Err outcome.NoMemory → IsDecision Translate bytes result
IsDecision-not_text (Ok work) bytes read error failed is bad other = absurd is
IsDecision-not_text (Err answer) bytes read workload.NoMemory failed is bad other = absurd (other (ap (λ a. Err a) is))
IsDecision-not_text (Err answer) bytes read (workload.BadWorkload line rule) failed is bad other =
    ap (λ a. Err a) is ∙ sym (ap text_decision (bad line rule failed))

-- the workload of a text keeps the rules
text-accepted : (bytes : List ℕ) (verdict : Verdict) (work : Work) → verdict_of bytes ≡ verdict → Ok work ≡ text_decision verdict → IsAccepted work
text-accepted bytes (Ok v) work is same = subst IsAccepted (work-of work v same) (reading bytes v is).0
  where
    work-of : (work : Work) (v : WorkValue) → ◌≡◌ {A = Result Work Outcome} (Ok work) (Ok (Queries v)) → Queries v ≡ work
    work-of work v same = cc
text-accepted bytes (Err (line, rule)) work is same = absurd (not_ok work line rule same)
  where
    not_ok : (work : Work) (line rule : ℕ) → ◌≡◌ {A = Result Work Outcome} (Ok work) (Err (outcome.BadWorkload line rule)) → ⊥
    not_ok work line rule same = cc

-- a decided work is accepted
pub IsAccepted-IsDecision : (command : Command) → CanBeAsked command → (bytes : List ℕ) (work : Work) → IsDecision command bytes (Ok work) → IsAccepted work
unfolding files_decision
IsAccepted-IsDecision Translate asked bytes work is = text-accepted bytes (verdict_of bytes) work refl is
IsAccepted-IsDecision (Generate seed) asked bytes work (None, none, is) = absurd (not_ok work is)
  where
    not_ok : (work : Work) → Ok work ≡ files_decision seed None → ⊥
    not_ok work is = cc
IsAccepted-IsDecision (Sample k) asked bytes work is = subst IsAccepted (sampled work k is) (sample-accepted k asked.0 asked.1, refl)
  where
    sampled : (work : Work) (k : ℕ) → ◌≡◌ {A = Result Work Outcome} (Ok work) (Ok (Sampled (record { config = sample_of k; seed = k })))
        → Sampled (record { config = sample_of k; seed = k }) ≡ work
    sampled work k is = cc
IsAccepted-IsDecision (Generate seed) asked bytes work (Some d, reads, is) =
    let facts = decided-files seed d work (sym is) in
    subst IsAccepted (sym facts.3) (record { rules = IsConfig-first_broken d facts.0; queries = facts.1; sides = facts.2 })

-- what is decided of the bytes that were read is decided of the input
pub decision-made : (command : Command) (left : Option (List ℕ)) (bytes : List ℕ) (result : Result Work Outcome) → AreAllLeft (input_of command left) bytes
    → (result ≢ Err outcome.NoMemory → IsDecision command bytes result) → IsTrue (is_decision result)
    → Decides command left result
decision-made command left bytes result all told is = (bytes, all, told (λ same. not_memory result is same))
  where
    not_memory : (result : Result Work Outcome) → IsTrue (is_decision result) → result ≡ Err outcome.NoMemory → ⊥
    not_memory result is same = let none : is_decision (Err outcome.NoMemory) ≡ false = refl in cc

-- an input of which all was read
pub IsReadWhole-read : (left left_after : Option (List ℕ)) (bytes : List ℕ) → IsAtEnd left_after → AreAllLeft left bytes → length bytes ≤ input_limit
    → IsReadWhole left left_after
IsReadWhole-read left left_after bytes at_end all short = record { at_end = at_end; short = within left all }
  where
    within : (left : Option (List ℕ)) → AreAllLeft left bytes → IfSome left (λ bytes. length bytes ≤ input_limit)
    within None all = tt
    within (Some xs) all = subst (λ (xs : List ℕ). length xs ≤ input_limit) all short

-- an input within the limit, and none where none is read
pub input-short : (command : Command) (left left_after : Option (List ℕ)) → (reads command ≡ true → IsReadWhole left left_after)
    → IfSome (input_of command left) (λ bytes. length bytes ≤ input_limit)
input-short Translate left left_after whole = (whole refl).short
input-short (Generate seed) left left_after whole = (whole refl).short
input-short (Sample k) left left_after whole = omega arith

-- an input that is too long is what the source has left
pub too-long-left : (command : Command) (left : Option (List ℕ)) → IsTooLong (input_of command left) → IsTooLong left
too-long-left Translate left long = long
too-long-left (Generate seed) left long = long
too-long-left (Sample k) left long = absurd (omega (arith, long))
