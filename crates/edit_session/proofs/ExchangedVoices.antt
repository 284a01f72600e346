-- The tables of the voices are exchanged one voice after another.
use Rattle.std.proofs.Common.{◌≡◌, ℕ, ◌+◌, ◌-◌, ◌*◌, ◌<◌, ◌≤◌, ◌↔◌, List, [], length, get_or, set, take, drop, map, refl, sym, ap, ◌∙◌, subst, inl, inr, arith}
use Rattle.std.specs.Prelude.{Contains}
use Rattle.std.proofs.Math.Nat.{mul-le-mul_right}
use Rattle.std.proofs.lemmas.Bool.{cases_lt}
use Rattle.std.proofs.lemmas.List.{drop-drop, get_or-drop, get_or_default, get_or_past, take_all, take_more_set}
use Rattle.std.proofs.lemmas.List.Elements.{All-contains, All-nil, Contains-get_or}
use Rattle.std.proofs.lemmas.List.Kept.{AllPairs-from_increasing}
use Rattle.bar_pool.proofs.EachLemmas.{Each-more}
use Rattle.rhythm_base.specs.Lists.{Each}
use Rattle.edit_laws.specs.Reached.{IsReached}
use Rattle.edit_session.specs.Exchange.{AreExchangedUpTo, AreVoicesAfter, AreVoicesBefore, Change, IsCellBefore, IsChange, IsVoiceAfter, IsVoiceBefore, tables_below}
use Rattle.edit_session.specs.Kept.{AreTablesOfVoice}
use Rattle.edit_session.specs.Prepared.{CellTable, IsCellTable, cell_of}
use Rattle.edit_session.specs.VoiceTables.{VoiceTables}
use Rattle.edit_session.proofs.CellPlaces.{cells_same, no_cells}
use Rattle.edit_session.proofs.Channels.{place_before}
use Rattle.edit_session.proofs.LostTables.{next_voice}

-- lists that are the same from a number on
pub same_at : {A : Type 0} (n : ℕ) (xs ys : List A) (d : A) → drop n xs ≡ drop n ys → get_or xs n d ≡ get_or ys n d
same_at n xs ys d h =
    let zero_on : n + 0 ≡ n = omega arith in
    sym (get_or-drop n xs 0 d ∙ ap (λ k. get_or xs k d) zero_on) ∙ ap (λ l. get_or l 0 d) h ∙ get_or-drop n ys 0 d ∙ ap (λ k. get_or ys k d) zero_on

pub same_rest : {A : Type 0} (n : ℕ) (xs ys : List A) → drop n xs ≡ drop n ys → drop (n + 1) xs ≡ drop (n + 1) ys
same_rest n xs ys h = sym (drop-drop 1 n xs) ∙ ap (drop 1) h ∙ drop-drop 1 n ys

-- the first voices are changed; from the next on nothing is exchanged
pub record AreVoicesUpTo (x : Change) (number : ℕ) (voices : List VoiceTables) (coming left gone : List CellTable) : Type 0 where
  pub after : Each (λ c v. AreTablesOfVoice x.grammar x.after c v.tables) (take number x.before.channels) (take number voices)
  pub exchanged : AreExchangedUpTo x (get_or x.before.channels number 16) 0 left gone
  pub even : tables_below (length x.after.bars) gone + number * (length x.after.bars - length x.before.bars) + length left ≡ length coming

module _ (x : Change) where
  abbrev channels : List ℕ
  channels = x.before.channels

  module _ (is : IsChange x) where
    low : (c : ℕ) → Contains channels c → c < 16
    low c there = All-contains (λ c. c < 16) channels c is.formed.voices there

    -- a channel is up to that of a number exactly where it is below that of the next number
    next_channel : (n : ℕ) → n < length channels → (a : ℕ) → Contains channels a → (a < get_or channels n 16 + 1) ↔ (a < get_or channels (n + 1) 16)
    next_channel n lt a (j, within, at) = (there, back)
      where
        here : get_or channels j 16 ≡ a
        here = get_or_default channels j 16 a within ∙ at

        there : a < get_or channels n 16 + 1 → a < get_or channels (n + 1) 16
        there less = elim (cases_lt (n + 1) (length channels)) [
          | inr le ↦ let past = get_or_past channels (n + 1) 16 le in let few = low a (j, within, at) in omega (arith, past, few)
          | inl more ↦ elim (cases_lt n j) [
            | inl after ↦
                let rise = AllPairs-from_increasing channels is.formed.voices_rise n j 16 after within in
                absurd (omega (arith, rise, here, less))
            | inr le ↦
                let rise = AllPairs-from_increasing channels is.formed.voices_rise j (n + 1) 16 (omega (arith, le)) more in
                omega (arith, rise, here)
          ]
        ]

        back : a < get_or channels (n + 1) 16 → a < get_or channels n 16 + 1
        back less = elim (cases_lt n j) [
          | inl after ↦ elim (cases_lt (n + 1) (length channels)) [
            | inr le ↦ absurd (omega (arith, le, after, within))
            | inl more ↦
                let early : j < n + 1 = place_before channels j (n + 1) 16 16 is.formed.voices_rise within more (omega (arith, less, here)) in
                absurd (omega (arith, after, early))
          ]
          | inr le ↦ elim (cases_lt j n) [
            | inl before ↦
                let rise = AllPairs-from_increasing channels is.formed.voices_rise j n 16 before lt in
                omega (arith, rise, here)
            | inr same ↦
                let at_n : j ≡ n = omega (arith, le, same) in
                let equal : get_or channels j 16 ≡ get_or channels n 16 = ap (λ k. get_or channels k 16) at_n in
                omega (arith, equal, here)
          ]
        ]

    none_lower : (a : ℕ) → Contains channels a → a < get_or channels 0 16 → ⊥
    none_lower a (j, within, at) less =
        let here : get_or channels j 16 ≡ a = get_or_default channels j 16 a within ∙ at in
        let early : j < 0 = place_before channels j 0 16 16 is.formed.voices_rise within (omega (arith, within)) (omega (arith, less, here)) in
        omega (arith, early)

    none_before : (c i a b : ℕ) → (a < c → ⊥) → IsCellBefore c 0 a b → ⊥
    none_before c i a b not (inl lt) = not lt
    none_before c i a b not (inr here) = let lt = here.1 in omega (arith, lt)

  pub voices_begun : (voices : List VoiceTables) (coming : List CellTable) → AreVoicesBefore x voices coming → AreVoicesUpTo x 0 voices coming coming []
  voices_begun voices coming h = record {
    after = refl;
    exchanged = record {
      cells_coming =
          cells_same (λ a b. IsReached x.grammar x.before x.after a b) (λ a b. IsReached x.grammar x.before x.after a b × (IsCellBefore (get_or channels 0 16) 0 a b → ⊥)) (map cell_of coming)
          (λ a b. (
            λ r. (r, none_before h.is (get_or channels 0 16) 0 a b (none_lower h.is a (subst (λ cs. Contains cs a) h.is.channels r.0))),
            λ u. u.0,
          )) (record { in_order = h.reached.in_order; exactly = h.reached.exactly });
      tables_coming = h.tables_coming;
      cells_gone = no_cells (λ a b. IsReached x.grammar x.after x.before a b × IsCellBefore (get_or channels 0 16) 0 a b)
          (λ a b u. none_before h.is (get_or channels 0 16) 0 a b (none_lower h.is a u.0.0) u.1);
      tables_gone = All-nil (IsCellTable x.grammar x.before);
    };
    even = omega arith;
  }

  -- the next voice, as it was
  pub voice_next : (number channel : ℕ) (voices : List VoiceTables) (voice : VoiceTables) (coming left gone : List CellTable) → IsChange x → number < length channels → get_or channels number 16 ≡ channel
      → AreTablesOfVoice x.grammar x.before channel voice.tables → AreVoicesUpTo x number voices coming left gone → IsVoiceBefore x channel voice.tables left gone
  voice_next number channel voices voice coming left gone is lt at tables h = record {
    is = is;
    voice = subst (Contains channels) at (Contains-get_or channels number 16 lt);
    tables_before = tables;
    exchanged = subst (λ c. AreExchangedUpTo x c 0 left gone) at h.exchanged;
  }

  pub voices_more : (number channel : ℕ) (voices : List VoiceTables) (voice : VoiceTables) (coming left gone rest out : List CellTable) → IsChange x → number < length channels → number < length voices
      → get_or channels number 16 ≡ channel → AreVoicesUpTo x number voices coming left gone → IsVoiceAfter x channel voice.tables left gone rest out
      → AreVoicesUpTo x (number + 1) (set voices number voice) coming rest out
  voices_more number channel voices voice coming left gone rest out is lt within at h k = record {
    after =
        subst (Each Of (take (number + 1) channels)) (sym (take_more_set voices number voice within))
        (Each-more Of channels (take number voices) number 16 voice lt h.after (subst (λ c. AreTablesOfVoice x.grammar x.after c voice.tables) (sym at) k.tables_after));
    exchanged =
        next_voice x (channel + 1) (get_or channels (number + 1) 16) rest out is
        (λ a there. let same = next_channel is number lt a there in (
          λ less. same.0 (omega (arith, less, at)),
          λ less. let low = same.1 less in omega (arith, low, at),
        )) k.exchanged;
    even =
        let gain : ℕ = length x.after.bars - length x.before.bars in
        let more : (number + 1) * gain ≡ number * gain + gain = grind arith in
        let here : tables_below (length x.after.bars) out + gain + length rest ≡ tables_below (length x.after.bars) gone + length left = k.even in
        let before : tables_below (length x.after.bars) gone + number * gain + length left ≡ length coming = h.even in
        omega (arith, more, here, before);
  }
    where
      Of : ℕ → VoiceTables → Type 0
      Of c v = AreTablesOfVoice x.grammar x.after c v.tables

  pub voices_ended : (number : ℕ) (voices : List VoiceTables) (coming left gone : List CellTable) → IsChange x → length channels ≤ number → length voices ≡ length channels
      → AreVoicesUpTo x number voices coming left gone → AreVoicesAfter x voices gone (length coming)
  voices_ended number voices coming left gone is all long h = record {
    tables =
        subst (λ cs. Each Of cs voices) (sym is.channels)
        (subst (λ cs. Each Of cs voices) (take_all number channels all)
        (subst (λ vs. Each Of (take number channels) vs) (take_all number voices (omega (arith, all, long))) h.after));
    reached = let cells = cells_same (λ a b. IsReached x.grammar x.after x.before a b × IsCellBefore (get_or channels number 16) 0 a b) (λ a b. IsReached x.grammar x.after x.before a b) (map cell_of gone)
        (λ a b. (λ u. u.0, λ r. (r, inl (let few = low is a r.0 in omega (arith, few, past))))) h.exchanged.cells_gone in record { in_order = cells.in_order; exactly = cells.exactly };
    tables_gone = h.exchanged.tables_gone;
    enough =
        let gain : ℕ = length x.after.bars - length x.before.bars in
        let more : length channels * gain ≤ number * gain = mul-le-mul_right gain all in
        let even : tables_below (length x.after.bars) gone + number * gain + length left ≡ length coming = h.even in
        omega (arith, more, even);
  }
    where
      Of : ℕ → VoiceTables → Type 0
      Of c v = AreTablesOfVoice x.grammar x.after c v.tables

      past : get_or channels number 16 ≡ 16
      past = get_or_past channels number 16 all
