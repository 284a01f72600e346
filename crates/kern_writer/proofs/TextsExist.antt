-- Each score has a text, or one that is too long.
use Rattle.rhythm_base.specs.declared.limits.TheConstants.{LONGEST_SCORE}
use Rattle.std.proofs.Common.{◌≡◌, ℕ, zero, suc, ◌-◌, ◌≤◌, ◌<◌, List, length, take, refl, sym, subst, ◌⊎◌, inl, inr, arith}
use Rattle.std.proofs.lemmas.Bool.{cases_lt}
use Rattle.std.proofs.lemmas.List.{take_all}
use Rattle.derivation.specs.Score.{IsScore, Score}
use Rattle.kern_writer.specs.Laws.{TextsExist}
use Rattle.kern_writer.specs.Records.{AreRecords, Record}
use Rattle.kern_writer.specs.Text.{IsScoreText, IsTooLong, records_text}
use Rattle.kern_writer.proofs.AllRecords.{bars_exist, score_records}

records_exist : (s : Score) → IsScore s → (records : List Record) × AreRecords s records
records_exist s is = let (values, records, are_values, are) = bars_exist s is in (_, score_records s records values are_values are)

-- the first of these records that ends past the longest text, where the first n of them do
record FirstPast (records : List Record) (line : ℕ) : Type 0 where
  some : 1 ≤ line
  there : line ≤ length records
  before : length (records_text (take (line - 1) records)) ≤ LONGEST_SCORE
  past : LONGEST_SCORE < length (records_text (take line records))

first_past : (records : List Record) (n : ℕ) → n ≤ length records → LONGEST_SCORE < length (records_text (take n records)) → (line : ℕ) × FirstPast records line
first_past records zero within past = absurd (omega (arith, past))
first_past records (suc n) within past = go (cases_lt LONGEST_SCORE (length (records_text (take n records)))) (first_past records n (omega (arith, within)))
  where
    before : suc n - 1 ≡ n
    before = omega arith

    go : (LONGEST_SCORE < length (records_text (take n records))) ⊎ (length (records_text (take n records)) ≤ LONGEST_SCORE)
        → (LONGEST_SCORE < length (records_text (take n records)) → (line : ℕ) × FirstPast records line) → (line : ℕ) × FirstPast records line
    go (inl lt) earlier = earlier lt
    go (inr le) earlier = (
      suc n,
      record {
        some = omega arith;
        there = within;
        before = subst (λ k. length (records_text (take k records)) ≤ LONGEST_SCORE) (sym before) le;
        past = past;
      },
    )

text_exist : (s : Score) → IsScore s → (text : List ℕ) × IsScoreText s text
text_exist s is = let (records, are) = records_exist s is in (records_text records, (records, are, refl))

short_or_too_long : (s : Score) → IsScore s → ((text : List ℕ) × IsScoreText s text × (length text ≤ LONGEST_SCORE)) ⊎ ((line : ℕ) × IsTooLong s line)
short_or_too_long s is = go (records_exist s is)
  where
    at : (records : List Record) → AreRecords s records → (LONGEST_SCORE < length (records_text records)) ⊎ (length (records_text records) ≤ LONGEST_SCORE)
        → ((text : List ℕ) × IsScoreText s text × (length text ≤ LONGEST_SCORE)) ⊎ ((line : ℕ) × IsTooLong s line)
    at records are (inr short) = inl (records_text records, (records, are, refl), short)
    at records are (inl long) =
        let whole : take (length records) records ≡ records = take_all (length records) records (omega arith) in
        let (line, first) = first_past records (length records) (omega arith) (subst (λ rs. LONGEST_SCORE < length (records_text rs)) (sym whole) long) in
        inr (line, record { records = records; are_records = are; some = first.some; there = first.there; before = first.before; past = first.past })

    go : (records : List Record) × AreRecords s records → ((text : List ℕ) × IsScoreText s text × (length text ≤ LONGEST_SCORE)) ⊎ ((line : ℕ) × IsTooLong s line)
    go (records, are) = at records are (cases_lt LONGEST_SCORE (length (records_text records)))

pub texts_exist : TextsExist
texts_exist = record { text = text_exist; short_or_too_long = short_or_too_long }
