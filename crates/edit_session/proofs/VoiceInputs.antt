-- The inputs of a voice, and of one voice more.
use Rattle.std.proofs.Common.{ℕ, ◌+◌, ◌<◌, List, [], ◌∷◌, ◌++◌, length, get_or, take, refl, sym, ap, ◌∙◌, append-nil}
use Rattle.std.specs.List.{flat_map}
use Rattle.std.proofs.lemmas.List.Concat.{flat_map-append}
use Rattle.bar_pool.proofs.EachLemmas.{Each-more}
use Rattle.bar_cut.specs.Cuts.{inputs}
use Rattle.rhythm_base.specs.BarInput.{BarInput}
use Rattle.rhythm_base.specs.Grammar.{Grammar}
use Rattle.rhythm_base.specs.Performance.{Performance}
use Rattle.edit_session.specs.Inputs.{AreInputsOf, AreInputsOfVoice}

pub no_inputs : (g : Grammar) (p : Performance) → AreInputsOf g p [] []
no_inputs g p = record { voices = []; each = refl; are = refl }

pub inputs_more : (g : Grammar) (p : Performance) (channels : List ℕ) (inputs own : List BarInput) (i d : ℕ) → i < length channels
    → AreInputsOf g p (take i channels) inputs → AreInputsOfVoice g p (get_or channels i d) own → AreInputsOf g p (take (i + 1) channels) (inputs ++ own)
inputs_more g p channels inputs own i d lt h of = record {
  voices = h.voices ++ own ∷ [];
  each = Each-more (AreInputsOfVoice g p) channels h.voices i d own lt h.each of;
  are = ap (λ l. l ++ own) h.are
      ∙ ap (λ l. flat_map (λ (x : List BarInput). x) h.voices ++ l) (sym (append-nil own))
      ∙ sym (flat_map-append (λ (x : List BarInput). x) h.voices (own ∷ []));
}
