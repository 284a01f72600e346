-- The events of a score have one file.
use Rattle.std.proofs.Common.{◌≡◌, ℕ, suc, ◌*◌, List, [], ◌∷◌, map, sym, ap, ◌∙◌, subst}
use Rattle.std.specs.Ordering.{nat_cmp}
use Rattle.std.specs.Cmp.Lexicographic.{slice_cmp, nat_list_cmp_total}
use Rattle.std.specs.declared.cmp.Ordering.TheVariants.{Less}
use Rattle.rhythm_base.proofs.FirstLists.{one_earlier, one_order}
use Rattle.rhythm_base.specs.declared.event.Event.{Event}
use Rattle.rhythm_base.specs.declared.note.Note.{Note}
use Rattle.rhythm_base.specs.Performance.{place_of_note}
use Rattle.voice_events.specs.declared.event.KernEvent.{KernEvent}
use Rattle.smf_bytes.specs.Chunk.{file_bytes}
use Rattle.smf_bytes.specs.Track.{content_bytes}
use Rattle.voice_events.specs.Parts.{score_parts}
use Rattle.smf_writer.specs.Changes.{conductor}
use Rattle.smf_writer.specs.EventNotes.{AreKept}
use Rattle.smf_writer.specs.Laws.{RenderedFilesAreOne}
use Rattle.smf_writer.specs.NoteMessages.{AreMessages, Message, event_of, place_of_message}
use Rattle.smf_writer.specs.RenderedFile.{AreVoicesFrom, IsVoiceTrack}

kept_one : (played a b : List Note) → AreKept played a → AreKept played b → a ≡ b
kept_one played a b h k =
    one_order (λ (m : Note) n. slice_cmp nat_cmp (place_of_note m) (place_of_note n) ≡ Less) (λ m n. one_earlier nat_list_cmp_total (place_of_note m) (place_of_note n)) a b h.in_order k.in_order
    (λ n there. (k.kept n).1 ((h.kept n).0 there)) (λ n there. (h.kept n).1 ((k.kept n).0 there))

messages_one : (notes : List Note) (a b : List Event) → AreMessages notes a → AreMessages notes b → a ≡ b
messages_one notes a b h k =
    let same : h.messages ≡ k.messages =
    one_order (λ (m : Message) n. slice_cmp nat_cmp (place_of_message m) (place_of_message n) ≡ Less) (λ m n. one_earlier nat_list_cmp_total (place_of_message m) (place_of_message n))
    h.messages k.messages h.in_order k.in_order (λ m there. (k.exactly m).1 ((h.exactly m).0 there)) (λ m there. (h.exactly m).1 ((k.exactly m).0 there)) in
    h.are ∙ ap (map event_of) same ∙ sym k.are

voice_one : (resolution : ℕ) (events : List KernEvent) (spine channel : ℕ) (a b : List Event) → IsVoiceTrack resolution events spine channel a → IsVoiceTrack resolution events spine channel b → a ≡ b
voice_one resolution events spine channel a b (notes, kept, are) (others, kept2, are2) =
    messages_one notes a b are (subst (λ (ns : List Note). AreMessages ns b) (sym (kept_one _ notes others kept kept2)) are2)

pub voices_one : (resolution : ℕ) (events : List KernEvent) (spine : ℕ) (channels : List ℕ) (a b : List (List Event)) → AreVoicesFrom resolution events spine channels a → AreVoicesFrom resolution events spine channels b → a ≡ b
voices_one resolution events spine [] a b h k = h ∙ sym k
voices_one resolution events spine (channel ∷ channels) a b (voice, others, is, later, are) (voice2, others2, is2, later2, are2) =
    are
    ∙ ap (λ (v : List Event). v ∷ others) (voice_one resolution events spine channel voice voice2 is is2)
    ∙ ap (λ (vs : List (List Event)). voice2 ∷ vs) (voices_one resolution events (suc spine) channels others others2 later later2)
    ∙ sym are2

pub files_one : RenderedFilesAreOne
files_one resolution bars channels events a b h k =
    let last = score_parts resolution bars in
    let voices = voices_one resolution events 1 channels h.voices k.voices h.are_voices k.are_voices in
    let contents : h.contents ≡ k.contents =
    h.are_contents ∙ ap (λ (vs : List (List Event)). map (λ track. content_bytes track last) (conductor resolution bars ∷ vs)) voices ∙ sym k.are_contents in
    h.are ∙ ap (file_bytes (16 * resolution)) contents ∙ sym k.are
