-- What words and files come to is one.
use Rattle.std.proofs.Common.{◌≡◌, ◌≤◌, ◌<◌, ◌+◌, ℕ, List, [], get_or, take, Option, Some, None, ap, ap₂, inl, inr, refl, sym, subst, ◌∙◌, Bool, true, false, Result, Ok, Err, arith}
use Rattle.std.proofs.lemmas.Bool.{leb-true, cases_lt}
use Rattle.std.specs.Prelude.{IfOk, if◌then◌else◌, nat_le, length, map, flat_map}
use Rattle.barline_fit.proofs.OneFit.{ticks_one}
use Rattle.rhythm_app.proofs.OneWritten.{scores_with_barline_one}
use Rattle.rhythm_app.specs.FittedScore.{IsFittedScore}
use Rattle.barline_fit.specs.declared.candidates.Candidates.{Candidates}
use Rattle.barline_fit.specs.declared.fitted.Fitted.{Fitted}
use Rattle.barline_follow.proofs.OneBest.{one_answer}
use Rattle.drill_run.proofs.OneDrill.{drills_one}
use Rattle.drill_run.specs.Ends.{IsDrillOf}
use Rattle.drill_run.specs.declared.piece.TheConstants.{DRILL_BARS}
use Rattle.edit_script.specs.ScriptLines.{script_lines}
use Rattle.edit_session.proofs.Faults.{fault_or_open, one_fault}
use Rattle.edit_session.specs.Opening.{CanOpen}
use Rattle.grammar_file.proofs.SayableLemmas.{is_sayable}
use Rattle.grammar_file.specs.Grammar.{grammar_of}
use Rattle.grammar_file.specs.Printed.{printed}
use Rattle.edit_session.proofs.EachRuns.{Each-at}
use Rattle.derivation.proofs.Pairs.{each_one}
use Rattle.std.proofs.lemmas.List.{length-take, get_or-take}
use Rattle.kern_laws.proofs.OneList.{one_list}
use Rattle.kern_reader.proofs.ScoreLemmas.{well_score}
use Rattle.kern_reader.specs.EventText.{events_text}
use Rattle.kern_reader.specs.Events.{AreEvents}
use Rattle.kern_reader.specs.Outcome.{score_of}
use Rattle.kern_reader.specs.Score.{IsKernScore, KernColumns}
use Rattle.voice_events.specs.declared.event.KernEvent.{KernEvent}
use Rattle.kern_reader.specs.declared.fault.KernFault.{KernFault}
use Rattle.derivation.proofs.OneScore.{scores_one}
use Rattle.derivation.specs.PerformanceScore.{score_bar}
use Rattle.derivation.specs.Score.{IsScore, Score}
use Rattle.kern_writer.proofs.OneWritten.{performance_texts_one}
use Rattle.kern_writer.specs.PerformanceText.{HasTooLongText}
use Rattle.lily_writer.proofs.OnePage.{pages_one}
use Rattle.lily_writer.specs.Text.{IsLilyText}
use Rattle.musicxml_writer.proofs.OneText as marking
use Rattle.musicxml_writer.specs.Text.{IsMusicXml}
use Rattle.notes_writer.proofs.OneOrder as noting
use Rattle.page_writer.proofs.OnePage as paging
use Rattle.page_writer.specs.Page.{IsPage}
use Rattle.performance_load.proofs.OneLoading.{one_loading}
use Rattle.performance_load.proofs.TakesLoaded.{takes_loaded, takes_one}
use Rattle.performance_load.specs.Loading.{Loads}
use Rattle.performance_load.specs.Take.{Take}
use Rattle.performance_prepare.specs.declared.options.Options.{Options}
use Rattle.performance_load.specs.declared.load_fault.LoadFault.{LoadFault}
use Rattle.piece_laws.proofs.FormedPieces.{pieces_formed}
use Rattle.rhythm_app.proofs.InTurn.{IsOne, in_turn_one}
use Rattle.rhythm_app.proofs.OneScript.{one_run, run_formed}
use Rattle.rhythm_app.proofs.Performing.{not_stopped, same_stop}
use Rattle.rhythm_app.proofs.Unopened.{all_are_made}
use Rattle.rule_counts.proofs.Adding as counting
use Rattle.session_counts.proofs.RuleLists.{are_one}
use Rattle.weight_learning.specs.Learned.{learned}
use Rattle.rhythm_app.specs.Asked.{Asked, help, version, write, answer, fit, too_many_candidates, follow, learn, too_many_files, notes, events, generate, drill, asked_by}
use Rattle.rhythm_app.specs.Commands.{HasOutcomeOf}
use Rattle.rhythm_app.specs.Inputs.{Inputs, file_content}
use Rattle.rhythm_app.specs.Laws.{OutcomesAreOne}
use Rattle.rhythm_app.specs.Learning.{AreAllListed, AreListsOf, AreOfFile, AreOfFiles, IsFirstStop, IsLearning, IsWeighed, in_file}
use Rattle.rhythm_app.specs.Outcome.{AreEventsOf, AreInTurn, AreInputs, AreFilesRead, AreLoaded, FitsScore, IsAnswering, IsFitting, IsFormOf, IsListing, IsLoading, IsNoting, IsOpening, IsPlaying, IsPreparing, IsScriptRead, IsScripted, Loaded, IsRead, IsScoreRead, IsTakeLoading, IsTaking, IsTooLongToWrite, IsUnfitted, IsUnwritten, IsWriting, IsWrittenOf, fit_stop, fit_text, IsDrilling, IsFollowing, IsPieceMade, IsPieceOf, IsTooLongDrill, Ready, say, serve, IsUnderstood, IsUnopened, grammar_tests, kern_tests, limit_of, load_stop, loaded, note_stop, open_stop, passed, refused_stop, stopped}
use Rattle.rhythm_app.specs.Scripted.{AreLinesMade, Opened, Refused}
use Rattle.rhythm_app.specs.declared.request.Form.{Form}
use Rattle.rhythm_app.specs.declared.request.Form.TheVariants as form
use Rattle.rhythm_app.specs.declared.request.Talk.{Talk}
use Rattle.rhythm_app.specs.declared.stop.Kind.TheVariants as kind
use Rattle.rhythm_app.specs.declared.stop.Stop.{Stop}
use Rattle.rhythm_app.specs.declared.stop.Stop.TheVariants as stop
use Rattle.rhythm_base.specs.Grammar.{Grammar}
use Rattle.rhythm_base.specs.Performance.{IsWellFormed, Performance}
use Rattle.rhythm_base.specs.Readable.{IsReadable}
use Rattle.rhythm_ports.specs.Files.{File}
use Rattle.script_writer.specs.EditText.{script_text}
use Rattle.smf_reader.specs.Played.{Smf}
use Rattle.smf_reader.specs.declared.fault.SmfFault.{SmfFault}
use Rattle.smf_writer.proofs.OneFile.{files_one}
use Rattle.smf_writer.specs.RenderedFile.{IsRendered}

-- ---- the files and the performance

one_read : (bytes : List ℕ) → IsOne (IsRead bytes)
one_read bytes r s h k = sym h ∙ k

one_understood : (bytes : List ℕ) → IsOne (IsUnderstood bytes)
one_understood bytes r s h k = sym h ∙ k

-- what is understood is a grammar that a file can say
pub readable : (bytes : List ℕ) (g : Grammar) → IsUnderstood bytes (Ok g) → IsReadable g
unfolding grammar_tests
readable bytes g = go (nat_le (length bytes) (limit_of kind.Grammar))
  where
    said : (r : Result Grammar _) → grammar_of bytes ≡ r → ◌≡◌ {A = Result Grammar Stop} (stopped stop.Grammar r) (Ok g) → IsReadable g
    said (Ok h) is e = let same : h ≡ g = cc in (is_sayable bytes g (is ∙ ap Ok same)).readable
    said (Err fault) is e = absurd (cc)

    go : (b : Bool) → ◌≡◌ {A = Result Grammar Stop} (passed (if b then Ok bytes else Err (stop.FileTooLong kind.Grammar (limit_of kind.Grammar + 1))) (λ b. stopped stop.Grammar (grammar_of b))) (Ok g) → IsReadable g
    go true e = said (grammar_of bytes) refl e
    go false e = absurd (cc)

one_loaded : (f : Smf) → IsOne (IsLoading f)
one_loaded f r s h k = h.4 ∙ ap (stopped load_stop) (one_loading f h.0 k.0 h.1 k.1 h.2 k.2) ∙ sym k.4

-- what is loaded is well formed
pub well_formed : (f : Smf) (p : Performance) → IsLoading f (Ok p) → IsWellFormed p
well_formed f p h = go h.0 h.3 h.4
  where
    go : (r : Result Performance LoadFault) → IfOk r IsWellFormed → ◌≡◌ {A = Result Performance Stop} (Ok p) (stopped load_stop r) → IsWellFormed p
    go (Ok q) formed e = let same : q ≡ p = cc in subst IsWellFormed same formed
    go (Err fault) formed e = absurd (cc)

one_taken : (f : Smf) → IsOne (IsTaking f)
one_taken f r s h k = h.3 ∙ ap (stopped note_stop) (takes_one f h.0 k.0 h.1 k.1 h.2 k.2) ∙ sym k.3

one_prepared : (o : Options) (t : Take) → IsOne (IsPreparing o t)
one_prepared o t r s h k = sym h ∙ k

one_take_loaded : (t : Take) → IsOne (IsTakeLoading t)
one_take_loaded t r s h k = h.4 ∙ ap (stopped load_stop) (takes_loaded.one t h.0 k.0 h.1 k.1 h.2 k.2) ∙ sym k.4

one_playing : (o : Options) (f : Smf) → IsOne (IsPlaying o f)
one_playing o f =
    in_turn_one (IsTaking f) (λ t. AreInTurn (IsPreparing o t) IsTakeLoading) (one_taken f)
    (λ t _. in_turn_one (IsPreparing o t) IsTakeLoading (one_prepared o t) (λ u _. one_take_loaded u))

-- what is played is well formed
pub well_played : (o : Options) (f : Smf) (p : Performance) → IsPlaying o f (Ok p) → IsWellFormed p
well_played o f p (t, taken, (u, mapped, h)) = go h.0 h.3 h.4
  where
    go : (r : Result Performance LoadFault) → IfOk r IsWellFormed → ◌≡◌ {A = Result Performance Stop} (Ok p) (stopped load_stop r) → IsWellFormed p
    go (Ok q) formed e = let same : q ≡ p = cc in subst IsWellFormed same formed
    go (Err fault) formed e = absurd (cc)

-- ---- the score

module _ (g : Grammar) (p : Performance) (read : IsReadable g) (formed : IsWellFormed p) where
  opened : (s : Stop) → CanOpen g p → IsUnopened g p s → ⊥
  opened s can (fault, is, other, same) = fault_or_open g p fault read formed other can is

  same_columns : (a b : KernColumns) → ◌≡◌ {A = Result KernColumns KernFault} (Ok a) (Ok b) → a ≡ b
  same_columns a b e = cc

  one_events : (a b : List KernEvent) → AreEventsOf g p a → AreEventsOf g p b → a ≡ b
  one_events a b h k =
      let short = k.written.1 in
      let same = performance_texts_one.text g p h.text k.text read formed h.written.0 k.written.0 in
      let score = same_columns h.score k.score (sym h.read ∙ ap score_of same ∙ k.read) in
      one_list k.score a b (well_score k.text k.score (omega (arith, short)) k.read) (subst (λ (s : KernColumns). AreEvents s a) score h.are) k.are

  -- what is written of the score itself
  module _ (Is : Score → List ℕ → List ℕ → Type 0) (one : (s : Score) (channels a b : List ℕ) → IsScore s → Is s channels a → Is s channels b → a ≡ b) where
    one_written_of : (a b : List ℕ) → IsWrittenOf Is g p a → IsWrittenOf Is g p b → a ≡ b
    one_written_of a b (s, kern, is, short, text) (t, kern', is', short', text') =
        let same = scores_one.score g p s t read formed is is' in
        one t p.channels a b (scores_one.can_be_written g p t read formed is') (subst (λ (x : Score). Is x p.channels a) same text) text'

    score_short : (text : List ℕ) (line : ℕ) → IsWrittenOf Is g p text → HasTooLongText g p line → ⊥
    score_short text line (s, kern, is, short, written) k = performance_texts_one.either g p kern line read formed short k

  one_of_form : (f : Form) (a b : List ℕ) → IsFormOf f g p a → IsFormOf f g p b → a ≡ b
  one_of_form form.Score a b h k = performance_texts_one.text g p a b read formed h.0 k.0
  one_of_form form.LilyPond a b (list, are, page) (other, others, page') =
      pages_one g.resolution (map (score_bar p) p.bars) (length p.channels) other a b read.ranges.some_unit
      (subst (λ (l : List KernEvent). IsLilyText g.resolution (map (score_bar p) p.bars) (length p.channels) l a) (one_events list other are others) page) page'
  one_of_form form.Page a b h k = one_written_of IsPage paging.pages_one a b h k
  one_of_form form.MusicXml a b h k = one_written_of IsMusicXml marking.texts_one a b h k
  one_of_form form.Rendered a b (list, are, file) (other, others, file') =
      files_one g.resolution (map (score_bar p) p.bars) p.channels other a b
      (subst (λ (l : List KernEvent). IsRendered g.resolution (map (score_bar p) p.bars) p.channels l a) (one_events list other are others) file) file'

  -- no form is written of a score that is too long
  form_short : (f : Form) (text : List ℕ) (line : ℕ) → IsFormOf f g p text → HasTooLongText g p line → ⊥
  form_short form.Score text line h k = performance_texts_one.either g p text line read formed h k
  form_short form.LilyPond text line (list, are, page) k = performance_texts_one.either g p are.text line read formed are.written k
  form_short form.Page text line h k = score_short IsPage paging.pages_one text line h k
  form_short form.MusicXml text line h k = score_short IsMusicXml marking.texts_one text line h k
  form_short form.Rendered text line (list, are, file) k = performance_texts_one.either g p are.text line read formed are.written k

  -- what is written in a form is not unwritten
  form_written : (f : Form) (text : List ℕ) (s : Stop) → IsFormOf f g p text → IsUnwritten f g p s → ⊥
  form_written form.Score text s h k = absurd k
  form_written form.LilyPond text s h k = absurd k
  form_written form.Page text s h k = absurd k
  form_written form.MusicXml text s h k = absurd k
  form_written form.Rendered bytes s (list, are, file) (text, tick, can, written, fault, same) = omega (arith, file.early, fault.0, fault.1)

  -- where a score is not written in its form a session is opened, and the score is not too long
  apart : (f : Form) (s t : Stop) → IsUnopened g p s → IsUnwritten f g p t → ⊥
  apart form.Score s t h k = absurd k
  apart form.LilyPond s t h k = absurd k
  apart form.Page s t h k = absurd k
  apart form.MusicXml s t h k = absurd k
  apart form.Rendered s t h (text, tick, can, written, fault, same) = opened s can h

  too_long_apart : (f : Form) (s t : Stop) → IsTooLongToWrite g p s → IsUnwritten f g p t → ⊥
  too_long_apart form.Score s t h k = absurd k
  too_long_apart form.LilyPond s t h k = absurd k
  too_long_apart form.Page s t h k = absurd k
  too_long_apart form.MusicXml s t h k = absurd k
  too_long_apart form.Rendered s t h (text, tick, can, written, fault, same) = performance_texts_one.either g p text h.0 read formed written h.2

  one_unwritten : (f : Form) (s t : Stop) → IsUnwritten f g p s → IsUnwritten f g p t → s ≡ t
  one_unwritten form.Score s t h k = absurd h
  one_unwritten form.LilyPond s t h k = absurd h
  one_unwritten form.Page s t h k = absurd h
  one_unwritten form.MusicXml s t h k = absurd h
  one_unwritten form.Rendered s t (text, tick, can, written, fault, same) (text', tick', can', written', fault', same') =
      same ∙ ap stop.RenderTooLong (fault.0 ∙ sym fault'.0) ∙ sym same'

  one_writing : (f : Form) → IsOne (IsWriting f g p)
  one_writing f (Ok (say a)) (Ok (say b)) h k = ap (λ text. Ok (say text)) (one_of_form f a b h.1 k.1)
  one_writing f (Ok (say a)) (Ok (serve t e q)) h k = absurd k
  one_writing f (Ok (serve t e q)) s h k = absurd h
  one_writing f (Ok (say a)) (Err t) h (inl k) = absurd (opened t h.0 k)
  one_writing f (Ok (say a)) (Err t) h (inr (inl k)) = absurd (form_short f a k.0 h.1 k.2)
  one_writing f (Ok (say a)) (Err t) h (inr (inr k)) = absurd (form_written f a t h.1 k)
  one_writing f (Err s) (Ok (say b)) (inl h) k = absurd (opened s k.0 h)
  one_writing f (Err s) (Ok (say b)) (inr (inl h)) k = absurd (form_short f b h.0 k.1 h.2)
  one_writing f (Err s) (Ok (say b)) (inr (inr h)) k = absurd (form_written f b s k.1 h)
  one_writing f (Err s) (Ok (serve t e q)) h k = absurd k
  one_writing f (Err s) (Err t) (inl h) (inl k) = ap Err (h.3 ∙ ap open_stop (one_fault g p h.0 k.0 read formed h.2 k.2 h.1 k.1) ∙ sym k.3)
  one_writing f (Err s) (Err t) (inl h) (inr (inl k)) = absurd (opened s k.1 h)
  one_writing f (Err s) (Err t) (inl h) (inr (inr k)) = absurd (apart f s t h k)
  one_writing f (Err s) (Err t) (inr (inl h)) (inl k) = absurd (opened t h.1 k)
  one_writing f (Err s) (Err t) (inr (inl h)) (inr (inl k)) = ap Err (h.3 ∙ ap stop.ScoreTooLong (performance_texts_one.too_long g p h.0 k.0 read formed h.2 k.2) ∙ sym k.3)
  one_writing f (Err s) (Err t) (inr (inl h)) (inr (inr k)) = absurd (too_long_apart f s t h k)
  one_writing f (Err s) (Err t) (inr (inr h)) (inl k) = absurd (apart f t s k h)
  one_writing f (Err s) (Err t) (inr (inr h)) (inr (inl k)) = absurd (too_long_apart f t s k h)
  one_writing f (Err s) (Err t) (inr (inr h)) (inr (inr k)) = ap Err (one_unwritten f s t h k)

  -- ---- the fitted barline

  same_score : (a b : List ℕ) → ◌≡◌ {A = Result (List ℕ) ℕ} (Ok a) (Ok b) → a ≡ b
  same_score a b e = cc

  same_record : (a b : ℕ) → ◌≡◌ {A = Result (List ℕ) ℕ} (Err a) (Err b) → a ≡ b
  same_record a b e = cc

  not_score : (a : List ℕ) (b : ℕ) → ◌≡◌ {A = Result (List ℕ) ℕ} (Ok a) (Err b) → ⊥
  not_score a b e = cc

  module _ (c : Candidates) where
    one_tick : (x y : Fitted) (a b : Result (List ℕ) ℕ) → FitsScore c g p x a → FitsScore c g p y b → x ≡ y
    one_tick x y a b h k = ticks_one.tick g p c.bar _ x y h.fitted k.fitted

    one_fit_score : (x y : Fitted) (a b : Result (List ℕ) ℕ) → FitsScore c g p x a → FitsScore c g p y b → a ≡ b
    one_fit_score x y a b h k =
        scores_with_barline_one.one g p c.bar y.tick a b read formed
        (subst (λ (z : Fitted). IsFittedScore g p c.bar z.tick a) (one_tick x y a b h k) h.scored) k.scored

    unfitted : (x : Fitted) (a : Result (List ℕ) ℕ) (s : Stop) → FitsScore c g p x a → IsUnfitted c g p s → ⊥
    unfitted x a s h (fault, can, is, other, same) = ticks_one.either g p c.bar _ x fault read formed other h.fitted is

    one_unfitted : (s t : Stop) → IsUnfitted c g p s → IsUnfitted c g p t → s ≡ t
    one_unfitted s t (a, can, is, other, same) (b, can', is', other', same') =
        same ∙ ap fit_stop (ticks_one.fault g p c.bar _ a b other other' is is') ∙ sym same'

    one_fitting : IsOne (IsFitting c g p)
    one_fitting (Ok (say a)) (Ok (say b)) (x, score, h, text) (y, score', k, text') =
        ap (λ t. Ok (say t)) (text ∙ ap₂ fit_text (one_tick x y (Ok score) (Ok score') h k) (same_score score score' (one_fit_score x y (Ok score) (Ok score') h k)) ∙ sym text')
    one_fitting (Ok (say a)) (Ok (serve t e q)) h k = absurd k
    one_fitting (Ok (serve t e q)) s h k = absurd h
    one_fitting (Ok (say a)) (Err t) (x, score, h, text) (inl k) = absurd (opened t h.can k)
    one_fitting (Ok (say a)) (Err t) (x, score, h, text) (inr (inl k)) = absurd (unfitted x (Ok score) t h k)
    one_fitting (Ok (say a)) (Err t) (x, score, h, text) (inr (inr (y, line, k, e))) = absurd (not_score score line (one_fit_score x y (Ok score) (Err line) h k))
    one_fitting (Err s) (Ok (serve t e q)) h k = absurd k
    one_fitting (Err s) (Ok (say b)) (inl h) (x, score, k, text) = absurd (opened s k.can h)
    one_fitting (Err s) (Ok (say b)) (inr (inl h)) (x, score, k, text) = absurd (unfitted x (Ok score) s k h)
    one_fitting (Err s) (Ok (say b)) (inr (inr (y, line, h, e))) (x, score, k, text) = absurd (not_score score line (one_fit_score x y (Ok score) (Err line) k h))
    one_fitting (Err s) (Err t) (inl h) (inl k) = ap Err (h.3 ∙ ap open_stop (one_fault g p h.0 k.0 read formed h.2 k.2 h.1 k.1) ∙ sym k.3)
    one_fitting (Err s) (Err t) (inl h) (inr (inl k)) = absurd (opened s k.1 h)
    one_fitting (Err s) (Err t) (inl h) (inr (inr (x, line, k, e))) = absurd (opened s k.can h)
    one_fitting (Err s) (Err t) (inr (inl h)) (inl k) = absurd (opened t h.1 k)
    one_fitting (Err s) (Err t) (inr (inl h)) (inr (inl k)) = ap Err (one_unfitted s t h k)
    one_fitting (Err s) (Err t) (inr (inl h)) (inr (inr (x, line, k, e))) = absurd (unfitted x (Err line) s k h)
    one_fitting (Err s) (Err t) (inr (inr (x, line, h, e))) (inl k) = absurd (opened t h.can k)
    one_fitting (Err s) (Err t) (inr (inr (x, line, h, e))) (inr (inl k)) = absurd (unfitted x (Err line) t h k)
    one_fitting (Err s) (Err t) (inr (inr (x, line, h, e))) (inr (inr (y, line', k, e'))) =
        ap Err (e ∙ ap stop.ScoreTooLong (same_record line line' (one_fit_score x y (Err line) (Err line') h k)) ∙ sym e')

  one_answering : (talk : Talk) → IsOne (IsAnswering talk g p)
  one_answering talk (Ok (say a)) s h k = absurd h
  one_answering talk (Ok (serve t e q)) (Ok (say b)) h k = absurd k
  one_answering talk (Ok (serve t e q)) (Ok (serve u f r)) h k = λ i. Ok (serve ((h.1 ∙ sym k.1) i) ((h.2 ∙ sym k.2) i) ((h.3 ∙ sym k.3) i))
  one_answering talk (Ok (serve t e q)) (Err s) h k = absurd (opened s h.0 k)
  one_answering talk (Err s) (Ok (say b)) h k = absurd k
  one_answering talk (Err s) (Ok (serve u f r)) h k = absurd (opened s k.0 h)
  one_answering talk (Err s) (Err t) h k = ap Err (h.3 ∙ ap open_stop (one_fault g p h.0 k.0 read formed h.2 k.2 h.1 k.1) ∙ sym k.3)

  -- ---- the barlines that follow the player

  one_following : IsOne (IsFollowing g p)
  one_following (Ok (say a)) (Ok (say b)) (can, (edits, are, text)) (can', (others, are', text')) =
      ap (λ t. Ok (say t)) (text ∙ ap script_text (one_answer g p edits others are are') ∙ sym text')
  one_following (Ok (say a)) (Ok (serve t e q)) h k = absurd k
  one_following (Ok (serve t e q)) s h k = absurd h
  one_following (Ok (say a)) (Err s) h k = absurd (opened s h.0 k)
  one_following (Err s) (Ok (say b)) h k = absurd (opened s k.0 h)
  one_following (Err s) (Ok (serve t e q)) h k = absurd k
  one_following (Err s) (Err t) h k = ap Err (h.3 ∙ ap open_stop (one_fault g p h.0 k.0 read formed h.2 k.2 h.1 k.1) ∙ sym k.3)

  -- ---- the rule lists

  one_list_of_lists : IsOne (AreListsOf g p)
  one_list_of_lists (Ok a) (Ok b) h k = ap Ok (are_one g p a b formed h.1 k.1)
  one_list_of_lists (Ok a) (Err t) h k = absurd (opened t h.0 k)
  one_list_of_lists (Err s) (Ok b) h k = absurd (opened s k.0 h)
  one_list_of_lists (Err s) (Err t) h k = ap Err (h.3 ∙ ap open_stop (one_fault g p h.0 k.0 read formed h.2 k.2 h.1 k.1) ∙ sym k.3)

  -- ---- the drill

  drill_or_open : (number : ℕ) (s : Stop) → IsTooLongDrill g number p s → IsUnopened g p s → ⊥
  drill_or_open number s (line, can, h, e) k = opened s can k

  drills_apart : (number : ℕ) (text : List ℕ) (s : Stop) → IsDrillOf g number p (Ok text) → IsTooLongDrill g number p s → ⊥
  drills_apart number text s h (line, can, k, e) = not_text text line (drills_one.said g number p (Ok text) (Err line) read formed h k)
    where
      not_text : (text : List ℕ) (line : ℕ) → ◌≡◌ {A = Result (List ℕ) ℕ} (Ok text) (Err line) → ⊥
      not_text text line e = cc

  same_text : (a b : List ℕ) → ◌≡◌ {A = Result (List ℕ) ℕ} (Ok a) (Ok b) → a ≡ b
  same_text a b e = cc

  same_line : (a b : ℕ) → ◌≡◌ {A = Result (List ℕ) ℕ} (Err a) (Err b) → a ≡ b
  same_line a b e = cc

  one_drilling : (number : ℕ) → IsOne (IsDrilling g number p)
  one_drilling number (Ok (serve t e q)) s h k = absurd h
  one_drilling number (Ok (say a)) (Ok (say b)) h k = ap (λ text. Ok (say text)) (same_text a b (drills_one.said g number p (Ok a) (Ok b) read formed h.1 k.1))
  one_drilling number (Ok (say a)) (Ok (serve t e q)) h k = absurd k
  one_drilling number (Ok (say a)) (Err t) h (inl k) = absurd (opened t h.0 k)
  one_drilling number (Ok (say a)) (Err t) h (inr k) = absurd (drills_apart number a t h.1 k)
  one_drilling number (Err s) (Ok (say b)) (inl h) k = absurd (opened s k.0 h)
  one_drilling number (Err s) (Ok (say b)) (inr h) k = absurd (drills_apart number b s k.1 h)
  one_drilling number (Err s) (Ok (serve t e q)) h k = absurd k
  one_drilling number (Err s) (Err t) (inl h) (inl k) = ap Err (h.3 ∙ ap open_stop (one_fault g p h.0 k.0 read formed h.2 k.2 h.1 k.1) ∙ sym k.3)
  one_drilling number (Err s) (Err t) (inl h) (inr k) = absurd (opened s k.1 h)
  one_drilling number (Err s) (Err t) (inr h) (inl k) = absurd (opened t h.1 k)
  one_drilling number (Err s) (Err t) (inr h) (inr k) =
      ap Err (h.3 ∙ ap stop.ScoreTooLong (same_line h.0 k.0 (drills_one.said g number p (Err h.0) (Err k.0) read formed h.2 k.2)) ∙ sym k.3)

same_performance : (p q : Performance) → ◌≡◌ {A = Result Performance LoadFault} (Ok p) (Ok q) → p ≡ q
same_performance p q e = cc

same_file : (f h : Smf) → ◌≡◌ {A = Result Smf SmfFault} (Ok f) (Ok h) → f ≡ h
same_file f h e = cc

-- the piece of a number is one
one_piece : (number : ℕ) (p q : Performance) → IsPieceOf number p → IsPieceOf number q → p ≡ q
one_piece number p q h k =
    let same : h.file ≡ k.file = same_file h.file k.file (sym h.says ∙ k.says) in
    same_performance p q
    (one_loading k.file (Ok p) (Ok q) (subst (λ f. Loads f (Ok p)) same h.loads) k.loads (λ e. cc) (λ e. cc))

one_made : (number : ℕ) → IsOne (IsPieceMade number)
one_made number r s h k = h.2 ∙ ap (λ p. Ok p) (one_piece number h.0 k.0 h.1 k.1) ∙ sym k.2

made_formed : (number : ℕ) (p : Performance) → IsPieceMade number (Ok p) → IsWellFormed p
made_formed number p (q, piece, e) = let same : q ≡ p = back p q e in subst IsWellFormed same (pieces_formed number DRILL_BARS q piece)
  where
    back : (p q : Performance) → ◌≡◌ {A = Result Performance Stop} (Ok p) (Ok q) → q ≡ p
    back p q e = cc

-- ---- learned weights

module _ (g : Grammar) (read : IsReadable g) where
  one_of_file : (bytes : List ℕ) → IsOne (AreOfFile g bytes)
  one_of_file bytes =
      in_turn_one (IsRead bytes) (λ f. AreInTurn (IsLoading f) (AreListsOf g)) (one_read bytes)
      (λ f _. in_turn_one (IsLoading f) (AreListsOf g) (one_loaded f) (λ p loaded. one_list_of_lists g p read (well_formed f p loaded)))

  module _ (files : List File) (midis : List (List ℕ)) where
    abbrev Passes : List ℕ → List (List ℕ) → Type 0
    Passes name l = AreOfFile g (file_content files name) (Ok l)

    one_of_files_lists : (a b : List (List ℕ)) → AreOfFiles g files midis a → AreOfFiles g files midis b → a ≡ b
    one_of_files_lists a b h k =
        h.are ∙ ap (flat_map (λ l. l)) (each_one Passes (λ _. Unit {0}) midis h.own k.own (λ name x y _ p q. same_lists x y (one_of_file (file_content files name) (Ok x) (Ok y) p q)) (λ _ _ _. tt) h.each k.each)
        ∙ sym k.are
      where
        same_lists : (x y : List (List ℕ)) → ◌≡◌ {A = Result (List (List ℕ)) Stop} (Ok x) (Ok y) → x ≡ y
        same_lists x y e = cc

    -- a file that passes is not stopped
    passed_or_stopped : (n : ℕ) (s : Stop) (names : List (List ℕ)) (lists : List (List ℕ)) → AreOfFiles g files names lists → n < length names → get_or names n [] ≡ get_or midis n []
        → AreOfFile g (file_content files (get_or midis n [])) (Err s) → ⊥
    passed_or_stopped n s names lists h lt same stopped =
        let passes = Each-at Passes names h.own n [] [] lt h.each in
        let here = subst (λ name. Passes name (get_or h.own n [])) same passes in
        not_stopped (get_or h.own n []) s (one_of_file (file_content files (get_or midis n [])) (Ok (get_or h.own n [])) (Err s) here stopped)

    no_earlier : (n m : ℕ) (s t : Stop) → IsFirstStop g files midis n s → IsFirstStop g files midis m t → n < m → ⊥
    no_earlier n m s t h k lt =
        let within : n < length (take m midis) = omega (arith, lt, length-take m midis, k.0.0) in
        passed_or_stopped n s (take m midis) k.0.1.0 k.0.1.1 within (get_or-take m midis n [] lt) h.1

    one_first_stop : (n m : ℕ) (s t : Stop) → IsFirstStop g files midis n s → IsFirstStop g files midis m t → in_file (n + 1) s ≡ in_file (m + 1) t
    one_first_stop n m s t h k = elim (cases_lt n m) [
      | inl lt ↦ absurd (no_earlier n m s t h k lt)
      | inr le ↦ elim (cases_lt m n) [
        | inl lt ↦ absurd (no_earlier m n t s k h lt)
        | inr ge ↦
            let same : n ≡ m = omega (arith, le, ge) in
            let stops = same_stop {T = List (List ℕ)} s t (one_of_file (file_content files (get_or midis m [])) (Err s) (Err t)
            (subst (λ i. AreOfFile g (file_content files (get_or midis i [])) (Err s)) same h.1) k.1) in
            λ i. in_file (same i + 1) (stops i)
      ]
    ]

    one_all_listed : IsOne (AreAllListed g files midis)
    one_all_listed (Ok a) (Ok b) h k = ap Ok (one_of_files_lists a b h k)
    one_all_listed (Ok a) (Err t) h (n, own, first, e) = absurd (passed_or_stopped n own midis a h first.0.0 refl first.1)
    one_all_listed (Err s) (Ok b) (n, own, first, e) k = absurd (passed_or_stopped n own midis b k first.0.0 refl first.1)
    one_all_listed (Err s) (Err t) (n, own, first, e) (m, own', first', e') = ap Err (e ∙ one_first_stop n m own own' first first' ∙ sym e')

    one_weighed : (bit : ℕ) (lists : List (List ℕ)) → IsOne (IsWeighed bit g lists)
    one_weighed bit lists (Ok (say a)) (Ok (say b)) (counts, are, text) (others, are', text') =
        ap (λ x. Ok (say x)) (text ∙ ap (λ (c : List ℕ). printed (learned g c bit)) (counting.are_one.counts (length g.rules) lists counts others are are') ∙ sym text')
    one_weighed bit lists (Ok (say a)) (Ok (serve t e q)) h k = absurd k
    one_weighed bit lists (Ok (serve t e q)) s h k = absurd h
    one_weighed bit lists (Ok (say a)) (Err s) h k = absurd k
    one_weighed bit lists (Err s) r h k = absurd h

    one_learning : (bit : ℕ) → IsOne (IsLearning bit files midis g)
    one_learning bit = in_turn_one (AreAllListed g files midis) (IsWeighed bit g) one_all_listed (λ lists _. one_weighed bit lists)

-- ---- the notes

one_noting : (p : Performance) → IsOne (IsNoting p)
one_noting p (Ok (say a)) (Ok (say b)) h k = ap (λ text. Ok (say text)) (noting.one_text p a b h k)
one_noting p (Ok (say a)) (Ok (serve t g q)) h k = absurd k
one_noting p (Ok (say a)) (Err s) h k = absurd k
one_noting p (Ok (serve t g q)) s h k = absurd h
one_noting p (Err s) r h k = absurd h

-- ---- the events

one_score_read : (bytes : List ℕ) → IsOne (IsScoreRead bytes)
one_score_read bytes r s h k = sym h ∙ k

-- the score of a file that is not too long is in its ranges
pub in_ranges : (bytes : List ℕ) (score : KernColumns) → IsScoreRead bytes (Ok score) → IsKernScore score
unfolding kern_tests
in_ranges bytes score = go (nat_le (length bytes) (limit_of kind.Kern)) refl
  where
    said : (r : Result KernColumns KernFault) → score_of bytes ≡ r → length bytes ≤ limit_of kind.Kern → ◌≡◌ {A = Result KernColumns Stop} (stopped stop.Kern r) (Ok score) → IsKernScore score
    said (Ok s) is short e = let same : s ≡ score = cc in well_score bytes score (omega (arith, short)) (is ∙ ap Ok same)
    said (Err fault) is short e = absurd (cc)

    go : (b : Bool) → nat_le (length bytes) (limit_of kind.Kern) ≡ b
        → ◌≡◌ {A = Result KernColumns Stop} (passed (if b then Ok bytes else Err (stop.FileTooLong kind.Kern (limit_of kind.Kern + 1))) (λ b. stopped stop.Kern (score_of b))) (Ok score) → IsKernScore score
    go true short e = said (score_of bytes) refl (leb-true (length bytes) (limit_of kind.Kern) short) e
    go false short e = absurd (cc)

one_listing : (score : KernColumns) → IsKernScore score → IsOne (IsListing score)
one_listing score well (Ok (say a)) (Ok (say b)) (list, are, text) (same, others, equal) =
    ap (λ x. Ok (say x)) (text ∙ ap events_text (one_list score list same well are others) ∙ sym equal)
one_listing score well (Ok (say a)) (Ok (serve t g p)) h k = absurd k
one_listing score well (Ok (say a)) (Err s) h k = absurd k
one_listing score well (Ok (serve t g p)) s h k = absurd h
one_listing score well (Err s) r h k = absurd h

-- ---- the run

one_script_read : (name : Option (List ℕ)) (files : List File) → IsOne (IsScriptRead name files)
one_script_read None files r s h k = h ∙ sym k
one_script_read (Some name) files r s h k = sym h ∙ k

one_what : (g : Grammar) (p : Performance) (script : List ℕ) → IsOne (λ (r : Result Loaded Stop). r ≡ Ok (loaded g p script))
one_what g p script r s h k = h ∙ sym k

one_loaded_inputs : (i : Inputs) (files : List File) → IsOne (AreLoaded i files)
one_loaded_inputs i files =
    let midi = file_content files i.midi in
    let grammar = file_content files i.grammar in
    in_turn_one (IsRead midi)
    (λ f. AreInTurn (IsUnderstood grammar) (λ g. AreInTurn (IsScriptRead i.script files) (λ script. AreInTurn (IsPlaying i.options f) (λ p r. r ≡ Ok (loaded g p script))))) (one_read midi)
    (λ f _. in_turn_one (IsUnderstood grammar) (λ g. AreInTurn (IsScriptRead i.script files) (λ script. AreInTurn (IsPlaying i.options f) (λ p r. r ≡ Ok (loaded g p script)))) (one_understood grammar)
    (λ g _. in_turn_one (IsScriptRead i.script files) (λ script. AreInTurn (IsPlaying i.options f) (λ p r. r ≡ Ok (loaded g p script))) (one_script_read i.script files)
    (λ script _. in_turn_one (IsPlaying i.options f) (λ p r. r ≡ Ok (loaded g p script)) (one_playing i.options f) (λ p _. one_what g p script))))

same_loaded : (x y : Loaded) → ◌≡◌ {A = Result Loaded Stop} (Ok x) (Ok y) → y ≡ x
same_loaded x y e = cc

-- the grammar can be read, and the performance is well formed
pub sound_files : (i : Inputs) (files : List File) (x : Loaded) → AreLoaded i files (Ok x) → IsReadable x.grammar × IsWellFormed x.performance
sound_files i files x (f, read, (g, understood, (script, found, (p, played, is)))) =
    subst (λ (x : Loaded). IsReadable x.grammar × IsWellFormed x.performance) (same_loaded x (loaded g p script) is)
    (readable (file_content files i.grammar) g understood, well_played i.options f p played)

one_opening : (g : Grammar) (p : Performance) → IsReadable g → IsWellFormed p → IsOne (IsOpening g p)
one_opening g p read formed (Ok a) (Ok b) h k = ap (λ (o : Opened). Ok o) (h.1 ∙ sym k.1)
one_opening g p read formed (Ok a) (Err t) h k = absurd (opened g p read formed t h.0 k)
one_opening g p read formed (Err s) (Ok b) h k = absurd (opened g p read formed s k.0 h)
one_opening g p read formed (Err s) (Err t) h k = ap Err (h.3 ∙ ap open_stop (one_fault g p h.0 k.0 read formed h.2 k.2 h.1 k.1) ∙ sym k.3)

-- what is opened is sound
sound_opening : (g : Grammar) (p : Performance) (o : Opened) → IsReadable g → IsWellFormed p → IsOpening g p (Ok o) → IsReadable o.grammar × IsWellFormed o.performance
sound_opening g p o read formed h = subst (λ (x : Opened). IsReadable x.grammar × IsWellFormed x.performance) (sym h.1) (read, formed)

one_scripted : (script : List ℕ) (o : Opened) → IsReadable o.grammar → IsWellFormed o.performance → IsOne (IsScripted script o)
one_scripted script o read formed r s (edits, h, e) (others, k, e') =
    e ∙ ap (stopped refused_stop) (one_run 1 o (script_lines script) edits others read formed h k) ∙ sym e'

one_inputs : (i : Inputs) (files : List File) → IsOne (AreInputs i files)
one_inputs i files =
    in_turn_one (AreLoaded i files) (λ x. AreInTurn (IsOpening x.grammar x.performance) (IsScripted x.script)) (one_loaded_inputs i files)
    (λ x loads. let sound = sound_files i files x loads in
    in_turn_one (IsOpening x.grammar x.performance) (IsScripted x.script) (one_opening x.grammar x.performance sound.0 sound.1)
    (λ o opens. let well = sound_opening x.grammar x.performance o sound.0 sound.1 opens in one_scripted x.script o well.0 well.1))

-- the same after the edits of the script file
pub sound_inputs : (i : Inputs) (files : List File) (o : Opened) → AreInputs i files (Ok o) → IsReadable o.grammar × IsWellFormed o.performance
sound_inputs i files o (x, loads, (start, opens, (edits, made, e))) =
    let sound = sound_files i files x loads in
    let well = sound_opening x.grammar x.performance start sound.0 sound.1 opens in
    run_formed 1 start o (script_lines x.script) well.0 well.1 (subst (λ (r : Result Opened Refused). AreLinesMade 1 start (script_lines x.script) r) (all_are_made o edits e) made)

one_of_files : (last : Grammar → Performance → Result Ready Stop → Type 0) → ((g : Grammar) (p : Performance) → IsReadable g → IsWellFormed p → IsOne (last g p))
    → (i : Inputs) (files : List File) → IsOne (AreFilesRead i files last)
one_of_files last one i files =
    in_turn_one (AreInputs i files) (λ o. last o.grammar o.performance) (one_inputs i files)
    (λ o are. let sound = sound_inputs i files o are in one o.grammar o.performance sound.0 sound.1)

one_of : (asked : Option Asked) (files : List File) → IsOne (HasOutcomeOf asked files)
one_of None files r s h k = h ∙ sym k
one_of (Some help) files r s h k = h ∙ sym k
one_of (Some version) files r s h k = h ∙ sym k
one_of (Some (write f i)) files r s h k = one_of_files (IsWriting f) (λ g p read formed. one_writing g p read formed f) i files r s h k
one_of (Some (answer talk i)) files r s h k = one_of_files (IsAnswering talk) (λ g p read formed. one_answering g p read formed talk) i files r s h k
one_of (Some (fit i c)) files r s h k = one_of_files (IsFitting c) (λ g p read formed. one_fitting g p read formed c) i files r s h k
one_of (Some (too_many_candidates count)) files r s h k = h ∙ sym k
one_of (Some (learn bit grammar midis)) files r s h k =
    in_turn_one (IsUnderstood (file_content files grammar)) (IsLearning bit files midis) (one_understood (file_content files grammar))
    (λ g understood. one_learning g (readable (file_content files grammar) g understood) files midis bit) r s h k
one_of (Some (too_many_files count)) files r s h k = h ∙ sym k
one_of (Some (follow i)) files r s h k = one_of_files IsFollowing (λ g p read formed. one_following g p read formed) i files r s h k
one_of (Some (notes midi o)) files r s h k =
    in_turn_one (IsRead (file_content files midi)) (λ f. AreInTurn (IsPlaying o f) IsNoting) (one_read (file_content files midi))
    (λ f _. in_turn_one (IsPlaying o f) IsNoting (one_playing o f) (λ p _. one_noting p)) r s h k
one_of (Some (events kern)) files r s h k =
    in_turn_one (IsScoreRead (file_content files kern)) IsListing (one_score_read (file_content files kern))
    (λ score read. one_listing score (in_ranges (file_content files kern) score read)) r s h k
one_of (Some (generate number bars)) files r s h k = h ∙ sym k
one_of (Some (drill number grammar)) files r s h k =
    in_turn_one (IsUnderstood (file_content files grammar)) (λ g. AreInTurn (IsPieceMade number) (λ p. IsDrilling g number p)) (one_understood (file_content files grammar))
    (λ g understood. in_turn_one (IsPieceMade number) (λ p. IsDrilling g number p) (one_made number)
    (λ p made. one_drilling g p (readable (file_content files grammar) g understood) (made_formed number p made) number)) r s h k

pub one_outcome : OutcomesAreOne
one_outcome words files = one_of (asked_by words) files
