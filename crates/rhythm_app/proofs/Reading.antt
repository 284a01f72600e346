-- What a file that was read comes to.
use Rattle.std.proofs.Common.{◌≡◌, ℕ, List, ap, sym, ◌∙◌, inl, inr, Result, Ok, Err}
use Rattle.std.specs.Prelude.{IfErr}
use Rattle.rhythm_app.specs.Outcome.{IsRead, midi_tests, passed, sized, stopped}
use Rattle.rhythm_app.specs.declared.stop.Kind.{Kind}
use Rattle.rhythm_app.specs.declared.stop.Kind.TheVariants as kind
use Rattle.rhythm_app.specs.declared.stop.Stop.{Stop}
use Rattle.rhythm_app.specs.declared.stop.Stop.TheVariants as stop
use Rattle.rhythm_app.specs.Stages.{EndsBy, Follows, IsEarly, IsOfContent}
use Rattle.smf_reader.specs.Played.{Smf}
use Rattle.smf_reader.specs.SmfFile.{smf}

pub midi_read : (content bytes seen : List ℕ) (r : Result Smf Stop) → Follows (λ s. sized kind.Midi content ≡ s) (Ok bytes) → seen ≡ bytes
    → Follows (λ s. stopped stop.Smf (smf seen) ≡ s) r → Follows (IsRead content) r
unfolding midi_tests
midi_read content bytes seen r (inr failed) same says = absurd failed
midi_read content bytes seen r (inl within) same says = go r says
  where
    whole : midi_tests content ≡ stopped stop.Smf (smf seen)
    whole = ap (λ r. passed r (λ b. stopped stop.Smf (smf b))) within ∙ ap (λ b. stopped stop.Smf (smf b)) (sym same)

    go : (r : Result Smf Stop) → Follows (λ s. stopped stop.Smf (smf seen) ≡ s) r → Follows (IsRead content) r
    go r (inl h) = inl (whole ∙ h)
    go r (inr failed) = inr failed

-- a stop of a stage that reads no file is one of a stage that reads one
content_ends : (kind : Kind) (before now : ℕ) (s : Stop) → IsEarly s → IsOfContent s → EndsBy kind before now s
content_ends kind before now stop.Usage early content = early
content_ends kind before now (stop.FileTooLong k n) early content = absurd content
content_ends kind before now (stop.LineTooLong n) early content = absurd content
content_ends kind before now (stop.Smf fault) early content = early
content_ends kind before now (stop.Grammar fault) early content = early
content_ends kind before now (stop.Kern fault) early content = early
content_ends kind before now stop.NoNotes early content = early
content_ends kind before now (stop.TooManyNotes n) early content = early
content_ends kind before now (stop.BadSignature a b) early content = early
content_ends kind before now (stop.UnevenBar a b d) early content = early
content_ends kind before now (stop.TooManyBars n) early content = early
content_ends kind before now (stop.TooManyCells n) early content = early
content_ends kind before now (stop.NoStart a b d) early content = early
content_ends kind before now (stop.Unprepared e) early content = early
content_ends kind before now (stop.NoDerivation a b) early content = early
content_ends kind before now (stop.ScoreTooLong n) early content = early
content_ends kind before now (stop.RenderTooLong n) early content = early
content_ends kind before now (stop.InFile m s) early content = early
content_ends kind before now (stop.TooManyFiles n) early content = early
content_ends kind before now (stop.TooManyCandidates n) early content = early
content_ends kind before now (stop.NoBarline n) early content = early
content_ends kind before now stop.NoCandidate early content = early
content_ends kind before now (stop.ScriptLine row why) early content = early
content_ends kind before now (stop.Read k) early content = absurd content
content_ends kind before now stop.Write early content = early
content_ends kind before now stop.Memory early content = early

pub early_ends : {T : Type 0} (kind : Kind) (before now : ℕ) (r : Result T Stop) → IfErr r IsEarly → IfErr r IsOfContent → IfErr r (EndsBy kind before now)
early_ends kind before now (Ok x) early content = tt
early_ends kind before now (Err s) early content = content_ends kind before now s early content

-- a stage that reads ends early
pub ends_early : (kind : Kind) (before now : ℕ) (s : Stop) → EndsBy kind before now s → IsEarly s
ends_early kind before now stop.Usage end = end
ends_early kind before now (stop.FileTooLong k n) end = tt
ends_early kind before now (stop.LineTooLong n) end = end
ends_early kind before now (stop.Smf e) end = tt
ends_early kind before now (stop.Grammar e) end = tt
ends_early kind before now (stop.Kern e) end = tt
ends_early kind before now stop.NoNotes end = tt
ends_early kind before now (stop.TooManyNotes n) end = tt
ends_early kind before now (stop.BadSignature m n) end = tt
ends_early kind before now (stop.UnevenBar l m n) end = tt
ends_early kind before now (stop.TooManyBars n) end = tt
ends_early kind before now (stop.TooManyCells n) end = tt
ends_early kind before now (stop.NoStart l m n) end = tt
ends_early kind before now (stop.Unprepared e) end = tt
ends_early kind before now (stop.NoDerivation m n) end = end
ends_early kind before now (stop.ScoreTooLong n) end = end
ends_early kind before now (stop.RenderTooLong n) end = end
ends_early kind before now (stop.InFile m s) end = end
ends_early kind before now (stop.TooManyFiles n) end = end
ends_early kind before now (stop.TooManyCandidates n) end = end
ends_early kind before now (stop.NoBarline n) end = end
ends_early kind before now stop.NoCandidate end = end
ends_early kind before now (stop.ScriptLine row why) end = end
ends_early kind before now (stop.Read k) end = tt
ends_early kind before now stop.Write end = end
ends_early kind before now stop.Memory end = tt
