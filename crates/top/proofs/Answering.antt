-- What the end of a call is, against the machine and against the source machine.
use Rattle.std.proofs.Common.{◌≡◌, ◌⊎◌, ◌<◌, ◌≤◌, ◌+◌, ◌-◌, ◌*◌, ℕ, suc, List, [], length, map, inl, inr, refl, arith, ap, ◌∙◌}
use Rattle.std.specs.Prelude.{Option, Some, None, Vec, Ok, Err}
use Rattle.std.specs.Io.KnownBytes.{Appends}
use Rattle.std.proofs.KnownBytes.{Appends-nil}
use Rattle.std.proofs.lemmas.List.{length-map}
use Rattle.std.proofs.lemmas.List.Elements.{All-map}
use Rattle.std.specs.declared.alloc.Global.{Global}
use Rattle.mach_mem.specs.Space.{Space, IsInitial}
use Rattle.c_type.specs.Names.{Name}
use Rattle.c_tree.specs.TUnit.{Func, Program}
use Rattle.c_run.specs.Context.{linked}
use Rattle.c_run.specs.Values.{Ended, Stopped}
use Rattle.c_run.specs.State.{State, Halt, no_changes}
use Rattle.c_run.specs.Run.{run}
use Rattle.c_run.proofs.LaterRun.{stops_at}
use Rattle.mach_exec.specs.Started.{started}
use Rattle.mach_exec.specs.Ends.{Exited, Reached}
use Rattle.gen_small.proofs.WholeRuns.{whole_ends, whole_stops}
use Rattle.outside.specs.Causes.{Rose}
use Rattle.outside.specs.Told.{Held}
use Rattle.subject.specs.declared.Halt as h
use Rattle.subject.specs.declared.Halt.TheVariants as halt
use Rattle.top.specs.Command.{Request, asked, asked_for}
use Rattle.subject.specs.Output.{GainsFront}
use Rattle.small_form.specs.SmallForm.{program_of_main}
use Rattle.c_front.specs.Accepted.{IsAccepted}
use Rattle.small_build.specs.SmallText.{AreSmallTexts}
use Rattle.top.specs.TextsAnswer.{Runs, IsRight, MayEnd, TextsAnswer}
use Rattle.top.specs.Outside.{Outside, IsExcused, IsSilent, IsEndWith}
use Rattle.top.specs.MachineAnswers.{end_of, MachineAnswers}
use Rattle.top.specs.SourceAnswers.{enough, SourceAnswers}
use Rattle.top.specs.Answers.{ReadingAnswers, FilesAnswer, WordsAnswer, Answers}
use Rattle.small_build.specs.Compiled.{IsCode, bytes_of}
use Rattle.top.specs.Reading.{Reading, Texts, Lacks, Exceeds, reading, MayRead, IsReading, ReadsTexts}
use Rattle.c_front.specs.Sources.{texts_of}
use Rattle.top.specs.Lines.{IsNamed, IsOrMemory}
use Rattle.c_front.specs.Errors.{IsRightErr}
use Rattle.c_front.specs.declared.FrontErr.{FrontErr}
use Rattle.c_front.specs.declared.FrontErr.TheVariants as front
use Rattle.small_build.specs.Built.{Builds}
use Rattle.small_build.specs.declared.BuildErr.{BuildErr}
use Rattle.small_build.specs.declared.BuildErr.TheVariants as build
use Rattle.top.specs.Ended.{end_unaccepted, end_unbuilt, EndsCode, stopped, broken, wanting, EndsTexts, refused, unread, ran}
use Rattle.top.specs.declared.answer.End.{End}
use Rattle.top.specs.declared.answer.End.TheVariants.{Ran, Signalled, Session, Built, Usage, Absent, TooLarge, Refused, ReadFault, WriteFault, Budget, Memory}
use Rattle.top.specs.declared.answer.Refusal.{Refusal}
use Rattle.top.specs.declared.answer.Refusal.TheVariants.{Syntax, Rule, Join, Unbuilt}
use Rattle.small_build.proofs.MainFits.{IsTaken, main_taken}
use Rattle.small_build.proofs.Compiling.{one_main}
use Rattle.c_front.proofs.Causes.{accepted_syntax, accepted_rule, accepted_join}
use Rattle.small_build.proofs.OneProgram.{one_program}
use Rattle.top.proofs.Causes.{right_syntax, right_rule, right_join, right_accepted}
use Rattle.subject.proofs.Ending.{one_memory, front_of_exit, earlier_front, begins_front, begins_all, breaks_front, one_stop, exits_or_spent, goes_past}

-- nothing was written
pub silent_same : (old new : Option (List ℕ)) → new ≡ old → Appends old new []
silent_same old new same = rw same (Appends-nil old)

silent_front : (old new : Option (List ℕ)) (output : List ℕ) → Appends old new [] → GainsFront old new output
silent_front old new output silent = (0, silent)

-- ---- the machine

module _ (f : Func) (most : ℕ) (o : Outside) (end : End) where
  abbrev Ends : List ℕ → Type 0
  Ends code = EndsCode code most o.old o.new o.writes_before o.writes_now end

  machine_answers : Ends (bytes_of f) → MachineAnswers f most o end
  machine_answers (stopped m k initial stops is) mem starts stop output here =
      let same = one_memory (bytes_of f) m mem initial starts in
      let one = one_stop (started mem []) most k stop stops.0 output (rw same at stops.1) here in
      inl (is ∙ ap end_of one.0, rw (one.1) at stops.2)
  machine_answers (broken m initial breaks is rose) mem starts stop output here =
      let same = one_memory (bytes_of f) m mem initial starts in
      inr (inr (inr (is, rose)), breaks_front (started mem []) most stop output o.old o.new (rw same at breaks) here)
  machine_answers (wanting is same) mem starts stop output here = inr (inl is, silent_front o.old o.new output (silent_same o.old o.new same))

  -- ---- the source machine

  module _ (bytes : ℕ) (taken : IsTaken f bytes) where
    abbrev limit : ℕ
    limit = 64 * bytes + 512

    exited : (m : Space) → IsInitial m (bytes_of f) [] 0 → (n status : ℕ) (s : State) → run (program_of_main f) [] no_changes n ≡ Halt (Ended status) s
        → Exited (started m []) status s.output (suc s.turns * limit)
    exited m initial n status s ends =
        let light = taken.light in
        whole_ends (linked (program_of_main f)) 0 limit (record { unit = 0; func = f }) taken.program (omega arith) m initial [] n n status s ends

    ends_with : Ends (bytes_of f) → (n status : ℕ) (s : State) → run (program_of_main f) [] no_changes n ≡ Halt (Ended status) s
        → IsEndWith o (Ran status) s.output end ⊎ ((end ≡ Budget) × GainsFront o.old o.new s.output × (most < suc s.turns * limit))
    ends_with (wanting is same) n status s ends = inl (inr (inl is, silent_front o.old o.new s.output (silent_same o.old o.new same)))
    ends_with (stopped m k initial stops is) n status s ends =
        elim (exits_or_spent (started m []) status most (suc s.turns * limit) s.output k stops.0 (exited m initial n status s ends) stops.1) [
          | inl e ↦ inl (inl (is ∙ ap end_of e.0, rw (e.1) at stops.2))
          | inr e ↦ inr (is ∙ ap end_of e.0, begins_all o.old o.new stops.0 s.output e.1 stops.2, e.2)
        ]
    ends_with (broken m initial breaks is rose) n status s ends =
        let x = exited m initial n status s ends in
        inl (inr (inr (inr (is, rose)), begins_front o.old o.new breaks.last.output s.output (front_of_exit (started m []) breaks.last breaks.count status (suc s.turns * limit) s.output breaks.ran_to x) breaks.front))

    reached : (m : Space) → IsInitial m (bytes_of f) [] 0 → (n : ℕ) (s : State) → run (program_of_main f) [] no_changes n ≡ Halt Stopped s → Reached (started m []) s.output (s.turns - 1) (s.turns * limit)
    reached m initial n s stops =
        let light = taken.light in
        whole_stops (linked (program_of_main f)) 0 limit (record { unit = 0; func = f }) taken.program (omega arith) m initial [] n n s stops

    -- the run is stopped behind more turns than the budget has instructions
    goes_with : Ends (bytes_of f) → (s : State) → run (program_of_main f) [] no_changes (most + 2) ≡ Halt Stopped s → ((end ≡ Budget) ⊎ IsExcused o end) × GainsFront o.old o.new s.output
    goes_with (wanting is same) s stops = (inr (inl is), silent_front o.old o.new s.output (silent_same o.old o.new same))
    goes_with (stopped m k initial done is) s stops =
        let r = reached m initial (most + 2) s stops in
        let turns = stops_at (program_of_main f) [] no_changes (most + 2) s (omega arith) stops in
        let far = r.at_least in
        let past = goes_past (started m []) r.last r.count most k done.0 r.ran_to (omega arith) done.1 in
        (inl (is ∙ ap end_of past.0), begins_all o.old o.new done.0 s.output (rw (r.output_is) at past.1) done.2)
    goes_with (broken m initial breaks is rose) s stops =
        let r = reached m initial (most + 2) s stops in
        let turns = stops_at (program_of_main f) [] no_changes (most + 2) s (omega arith) stops in
        let far = r.at_least in
        let within = breaks.within in
        let before = earlier_front (started m []) breaks.last r.last breaks.count r.count breaks.ran_to r.ran_to (omega arith) in
        (inr (inr (inr (is, rose))), begins_front o.old o.new breaks.last.output s.output (rw (r.output_is) at before) breaks.front)

    source_answers : Ends (bytes_of f) → SourceAnswers (program_of_main f) bytes most o end
    source_answers code = record {
      ends = λ n status s e. elim (ends_with code n status s e) [ inl x ↦ inl x | inr x ↦ inr (x.0, x.1) ];
      budget_is_enough = λ n status s e much. elim (ends_with code n status s e) [ inl x ↦ x | inr x ↦ absurd (not_enough s.turns x.2 much) ];
      goes_on = λ forever.
          let there = forever (most + 2) (omega arith) in
          let g = goes_with code there.0 there.1 in
          (g.0, most + 2, there.0, there.1, g.1);
    }
      where
        not_enough : (turns : ℕ) → most < suc turns * limit → enough bytes turns ≤ most → ⊥
        not_enough turns less much = omega (arith, split turns)
          where
            split : (turns : ℕ) → (turns + 2) * limit ≡ suc turns * limit + limit
            split turns = omega arith

-- ---- texts

-- where the front end gives no program
unaccepted_ends : {texts : List (List ℕ)} {most : ℕ} {old : Option (List ℕ)} {before : ℕ} {end : End} (e : FrontErr) → IsRightErr texts e → end ≡ end_unaccepted e → EndsTexts texts most old old before before end
unaccepted_ends (front.Syntax k line) right is = refused (Syntax k line) right is refl
unaccepted_ends (front.Rule k line rule) right is = refused (Rule k line rule) right is refl
unaccepted_ends (front.Join why) right is = refused (Join why) right is refl
unaccepted_ends front.Memory right is = unread is refl

-- where texts are not built
pub unbuilt_ends : {texts : List (List ℕ)} {most : ℕ} {old : Option (List ℕ)} {before : ℕ} {end : End} (e : BuildErr) → Builds texts (Err e) → end ≡ end_unbuilt e → EndsTexts texts most old old before before end
unbuilt_ends (build.Front e) right is = unaccepted_ends e right is
unbuilt_ends build.Unbuilt right is = refused Unbuilt right is refl
unbuilt_ends build.Memory right is = unread is refl

excused_may : (texts : List (List ℕ)) (o : Outside) (end : End) → IsExcused o end → MayEnd texts o end
excused_may texts o end (inl is) = rw is tt
excused_may texts o end (inr (inl is)) = rw (is.0) is.1
excused_may texts o end (inr (inr is)) = rw (is.0) is.1

-- where nothing was written and want of memory or a fault is the end
texts_excused : (texts : List (List ℕ)) (most : ℕ) (o : Outside) (end : End) → IsExcused o end → IsSilent o → TextsAnswer texts most o end
texts_excused texts most o end excused silent = record {
  only = excused_may texts o end excused;
  syntax = λ k s. (inr excused, silent);
  rule = λ k n s. (inr excused, silent);
  join_fails = λ w s. (inr excused, silent);
  unbuilt = λ p a none. (inr excused, silent);
  machine = λ p a f s mem starts stop output here. inr (excused, silent_front o.old o.new output silent);
  source = λ p a f s. record {
    ends = λ n status st e. inl (inr (excused, silent_front o.old o.new st.output silent));
    budget_is_enough = λ n status st e much. inr (excused, silent_front o.old o.new st.output silent);
    goes_on = λ forever. let there = forever 1 (omega arith) in (inr excused, 1, there.0, there.1, silent_front o.old o.new there.0.output silent);
  };
}

texts_refused : (texts : List (List ℕ)) (most : ℕ) (o : Outside) (end : End) (why : Refusal) → IsRight texts why → end ≡ Refused why → IsSilent o → TextsAnswer texts most o end
texts_refused texts most o end why right is silent = record {
  only = rw is right;
  syntax = λ k s. let r = right_syntax texts why k right s in (inl (r.0, is ∙ ap Refused r.1), silent);
  rule = λ k n s. let r = right_rule texts why k n right s in (inl (r.0, r.1, is ∙ ap Refused r.2), silent);
  join_fails = λ w s. (inl (is ∙ ap Refused (right_join texts why w right s)), silent);
  unbuilt = λ p a none. let r = right_accepted texts why p right a in (inl (is ∙ ap Refused r.0), silent);
  machine = λ p a f s. let r = right_accepted texts why p right a in absurd (r.1 f s);
  source = λ p a f s. let r = right_accepted texts why p right a in absurd (r.1 f s);
}

may_stop : (texts : List (List ℕ)) (o : Outside) (k : h.Halt) → Runs texts → MayEnd texts o (end_of k)
may_stop texts o (halt.Exited s) runs = runs
may_stop texts o (halt.Raised g) runs = runs
may_stop texts o halt.Spent runs = runs

may_code : (texts : List (List ℕ)) (o : Outside) (code : List ℕ) (most : ℕ) (end : End) → Runs texts → EndsCode code most o.old o.new o.writes_before o.writes_now end → MayEnd texts o end
may_code texts o code most end runs (stopped m k initial stops is) = rw is (may_stop texts o k runs)
may_code texts o code most end runs (broken m initial breaks is rose) = rw is rose
may_code texts o code most end runs (wanting is same) = rw is tt

module _ (texts : List (List ℕ)) (most : ℕ) (o : Outside) (end : End) (q : Program) (b : IsAccepted texts q) (code : List ℕ) (is : IsCode texts code) where
  module _ (ends : EndsCode code most o.old o.new o.writes_before o.writes_now end) where
    code_ends : (f : Func) → AreSmallTexts texts f → EndsCode (bytes_of f) most o.old o.new o.writes_before o.writes_now end
    code_ends f s = rw (is.code_is ∙ ap bytes_of (one_main texts is.main f is.small s)) at ends

    program_source : (p : Program) → IsAccepted texts p → (f : Func) → (s : AreSmallTexts texts f) → SourceAnswers p (length s.text) most o end
    program_source p a f s = rw (one_program texts p f a s) (source_answers f most o end (length s.text) (main_taken s.text f s.small) (code_ends f s))

    texts_ran : TextsAnswer texts most o end
    texts_ran = record {
      only = may_code texts o code most end ((q, b), (is.main, is.small)) ends;
      syntax = λ k s. absurd (accepted_syntax texts q k b s);
      rule = λ k n s. absurd (accepted_rule texts q k n b s);
      join_fails = λ w s. absurd (accepted_join texts q w b s);
      unbuilt = λ p a none. absurd (none is.main is.small);
      machine = λ p a f s. machine_answers f most o end (code_ends f s);
      source = program_source;
    }

texts_answer : (texts : List (List ℕ)) (most : ℕ) (o : Outside) (end : End) → EndsTexts texts most o.old o.new o.writes_before o.writes_now end → TextsAnswer texts most o end
texts_answer texts most o end (refused why right is same) = texts_refused texts most o end why right is (silent_same o.old o.new same)
texts_answer texts most o end (unread is same) = texts_excused texts most o end (inl is) (silent_same o.old o.new same)
texts_answer texts most o end (ran p a code is ends) = texts_ran texts most o end p a code is ends

-- ---- files

pub texts_answered : (names : List Name) (most : ℕ) (o : Outside) (end : End) (texts : Vec (Vec ℕ Global) Global) → ReadsTexts o.held names (Ok texts)
    → EndsTexts (texts_of texts.items) most o.old o.new o.writes_before o.writes_now end → FilesAnswer names most o.held o end
texts_answered names most o end texts reads ends = by_held o.held reads
  where
    by_held : (held : Option Held) → ReadsTexts held names (Ok texts) → FilesAnswer names most held o end
    by_held None reads = (Texts (texts_of texts.items), reads, texts_answer (texts_of texts.items) most o end ends)
    by_held (Some held) reads = rw reads (texts_answer (texts_of texts.items) most o end ends)

reading_excused : (r : Reading) (most : ℕ) (o : Outside) (end : End) → IsExcused o end → IsSilent o → ReadingAnswers r most o end
reading_excused (Texts texts) most o end excused silent = texts_excused texts most o end excused silent
reading_excused (Lacks name) most o end excused silent = (inr excused, silent)
reading_excused (Exceeds name) most o end excused silent = (inr excused, silent)

-- some reading of names
some_reading : (names : List Name) → MayRead names (Texts (map (λ name. []) names))
some_reading names = (length-map names (λ name. []), All-map (λ text. length text ≤ 262144) (λ name. []) names (λ k d below. omega arith))

files_excused : (names : List Name) (most : ℕ) (held : Option Held) (o : Outside) (end : End) → IsExcused o end → IsSilent o → FilesAnswer names most held o end
files_excused names most None o end excused silent = (Texts (map (λ name. []) names), some_reading names, texts_excused (map (λ name. []) names) most o end excused silent)
files_excused names most (Some held) o end excused silent = reading_excused (reading held names) most o end excused silent

module _ (names : List Name) (most : ℕ) (o : Outside) (silent : IsSilent o) where
  by_reading : (held : Option Held) (r : Reading) (end : End) → IsReading held names r → ReadingAnswers r most o end → FilesAnswer names most held o end
  by_reading None r end is answers = (r, is, answers)
  by_reading (Some held) r end is answers = rw is answers

  pub unread_answered : (end : End) → ReadsTexts o.held names (Err end) → (end ≡ ReadFault → Rose o.reads_before o.reads_now) → FilesAnswer names most o.held o end
  unread_answered (Ran s) reads rose = absurd reads
  unread_answered (Signalled g) reads rose = absurd reads
  unread_answered Session reads rose = absurd reads
  unread_answered Built reads rose = absurd reads
  unread_answered Usage reads rose = absurd reads
  unread_answered (Absent name) reads rose = by_reading o.held (Lacks name) (Absent name) reads (inl refl, silent)
  unread_answered (TooLarge name) reads rose = by_reading o.held (Exceeds name) (TooLarge name) reads (inl refl, silent)
  unread_answered (Refused why) reads rose = absurd reads
  unread_answered ReadFault reads rose = files_excused names most o.held o ReadFault (inr (inl (refl, rose refl))) silent
  unread_answered WriteFault reads rose = absurd reads
  unread_answered Budget reads rose = absurd reads
  unread_answered Memory reads rose = files_excused names most o.held o Memory (inl refl) silent

-- ---- words

pub asked_answers : (words : List (List ℕ)) (names : List Name) (most : ℕ) (o : Outside) (end : End) → asked words ≡ Some (asked_for names most) → FilesAnswer names most o.held o end → Answers words o end
asked_answers words names most o end is answer = rw is answer

pub usage_answers : (words : List (List ℕ)) (o : Outside) (end : End) → asked words ≡ None → end ≡ Usage → IsSilent o → Answers words o end
usage_answers words o end none is silent = rw none (inl is, silent)

-- want of memory before it is known what the words ask for
pub memory_answers : (words : List (List ℕ)) (o : Outside) (end : End) → end ≡ Memory → IsSilent o → Answers words o end
memory_answers words o end is silent = by_words (asked words)
  where
    by_words : (a : Option Request) → WordsAnswer a o end
    by_words None = (inr is, silent)
    by_words (Some a) = files_excused a.files a.most o.held o end (inl is) silent

-- ---- an end with a name

not_excused : (o : Outside) (end : End) → IsNamed end → IsExcused o end → ⊥
not_excused o end named (inl is) = rw is at named
not_excused o end named (inr (inl is)) = rw (is.0) at named
not_excused o end named (inr (inr is)) = rw (is.0) at named

not_with : (o : Outside) (told : End) (output : List ℕ) (end : End) → IsNamed end → (IsNamed told → ⊥) → IsEndWith o told output end → ⊥
not_with o told output end named no_ (inl is) = no_ (rw (is.0) at named)
not_with o told output end named no_ (inr is) = not_excused o end named is.0

not_budget : (end : End) → IsNamed end → end ≡ Budget → ⊥
not_budget end named is = rw is at named

stop_unnamed : (k : h.Halt) → IsNamed (end_of k) → ⊥
stop_unnamed (halt.Exited s) named = named
stop_unnamed (halt.Raised g) named = named
stop_unnamed halt.Spent named = named

-- want of memory may stand for an end with a name, where nothing was written
memory_source : (p : Program) (bytes most : ℕ) (o : Outside) (end : End) → IsNamed end → SourceAnswers p bytes most o end → SourceAnswers p bytes most o Memory
memory_source p bytes most o end named a = record {
  ends = λ n status s e. elim (a.ends n status s e) [ inl x ↦ absurd (not_with o (Ran status) s.output end named (λ z. z) x) | inr x ↦ absurd (not_budget end named x.0) ];
  budget_is_enough = λ n status s e much. absurd (not_with o (Ran status) s.output end named (λ z. z) (a.budget_is_enough n status s e much));
  goes_on = λ forever. let g = a.goes_on forever in elim (g.0) [ inl x ↦ absurd (not_budget end named x) | inr x ↦ absurd (not_excused o end named x) ];
}

memory_texts : (texts : List (List ℕ)) (most : ℕ) (o : Outside) (end : End) → IsNamed end → TextsAnswer texts most o end → TextsAnswer texts most o Memory
memory_texts texts most o end named a = record {
  only = tt;
  syntax = λ k s. let x = a.syntax k s in (inr (inl refl), x.1);
  rule = λ k n s. let x = a.rule k n s in (inr (inl refl), x.1);
  join_fails = λ w s. let x = a.join_fails w s in (inr (inl refl), x.1);
  unbuilt = λ p b none. let x = a.unbuilt p b none in (inr (inl refl), x.1);
  machine = λ p b f s mem starts stop output here. absurd (not_with o (end_of stop) output end named (stop_unnamed stop) (a.machine p b f s mem starts stop output here));
  source = λ p b f s. memory_source p (length s.text) most o end named (a.source p b f s);
}

memory_reading : (r : Reading) (most : ℕ) (o : Outside) (end : End) → IsNamed end → ReadingAnswers r most o end → ReadingAnswers r most o Memory
memory_reading (Texts texts) most o end named a = memory_texts texts most o end named a
memory_reading (Lacks name) most o end named a = (inr (inl refl), a.1)
memory_reading (Exceeds name) most o end named a = (inr (inl refl), a.1)

memory_files : (names : List Name) (most : ℕ) (held : Option Held) (o : Outside) (end : End) → IsNamed end → FilesAnswer names most held o end → FilesAnswer names most held o Memory
memory_files names most None o end named a = (a.0, a.1, memory_reading a.0 most o end named a.2)
memory_files names most (Some held) o end named a = memory_reading (reading held names) most o end named a

-- the end that is told
pub told_answers : (names : List Name) (most : ℕ) (o : Outside) (end told : End) → FilesAnswer names most o.held o end → IsOrMemory end told → FilesAnswer names most o.held o told
told_answers names most o end told answers (inl same) = rw same answers
told_answers names most o end told answers (inr is) = rw (is.0) (memory_files names most o.held o end is.1 answers)

pub only_memory : (told : End) → IsOrMemory Memory told → told ≡ Memory
only_memory told (inl same) = same
only_memory told (inr is) = is.0
