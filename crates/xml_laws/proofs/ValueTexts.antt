-- The elements of a value are read as it.
use Rattle.std.proofs.Common.{◌≡◌, ℕ, zero, suc, ◌+◌, ◌≤◌, ◌==◌, Bool, true, false, List, [], ◌++◌, Some, refl, ap, subst, arith}
use Rattle.std.specs.Prelude.{codes, decimal, if◌then◌else◌, nat_lt}
use Rattle.std.specs.List.{repeat}
use Rattle.std.proofs.lemmas.Bool.Decides.{nat_tests}
use Rattle.durations.specs.declared.value.Recip.{Recip}
use Rattle.durations.specs.declared.value.Recip.TheVariants.{Of, Breve, Long}
use Rattle.durations.specs.declared.value.Value.{Value}
use Rattle.text_words.specs.Steps.{◌>>=◌}
use Rattle.notation.specs.declared.note.Ratio.{Ratio}
use Rattle.musicxml_writer.specs.Elements.{closing, element, empty_element, opening, text_if}
use Rattle.musicxml_writer.specs.Values.{finer, part_type, ratio_text, type_text, value_text}
use Rattle.xml_laws.specs.Hearing.{HeardPart, hear_tag, hear_value, hear_xml_word, within_note}
use Rattle.xml_laws.specs.Notes.{ReadNote, xml_number}
use Rattle.xml_laws.specs.Words.{part_marks, part_values}
use Rattle.xml_laws.proofs.Cutting.{is_plain_content, word}
use Rattle.xml_laws.proofs.ValuesRead.{IsShown, valued}
use Rattle.xml_laws.proofs.ReadTexts.{IsValueName, Reads, reads_both, reads_element, reads_none, reads_value}
use Rattle.xml_laws.proofs.NoteParts.{decimal_plain, noted}

-- ---- texts

type_name : IsValueName (codes "type")
unfolding hear_xml_word hear_tag hear_value part_values part_marks
type_name = record { angles = refl; opens = refl; closes = refl; silent = λ h. refl }

actual_name : IsValueName (codes "actual-notes")
unfolding hear_xml_word hear_tag hear_value part_values part_marks
actual_name = record { angles = refl; opens = refl; closes = refl; silent = λ h. refl }

normal_name : IsValueName (codes "normal-notes")
unfolding hear_xml_word hear_tag hear_value part_values part_marks
normal_name = record { angles = refl; opens = refl; closes = refl; silent = λ h. refl }

either_plain : (b : Bool) (xs ys : List ℕ) → is_plain_content xs ≡ true → is_plain_content ys ≡ true
    → is_plain_content (if b then xs else ys) ≡ true
either_plain true xs ys h k = h
either_plain false xs ys h k = k

part_plain : (n : ℕ) → is_plain_content (part_type n) ≡ true
part_plain n =
    either_plain (n == 1) _ _ refl (either_plain (n == 2) _ _ refl (either_plain (n == 4) _ _ refl (either_plain (n == 8) _ _ refl
    (either_plain (n == 16) _ _ refl (either_plain (n == 32) _ _ refl (either_plain (n == 64) _ _ refl
    (either_plain (n == 128) _ _ refl (either_plain (n == 256) _ _ refl (either_plain (n == 512) _ _ refl refl)))))))))

type_plain : (r : Recip) → is_plain_content (type_text r) ≡ true
type_plain (Of n) = part_plain n
type_plain Breve = refl
type_plain Long = refl

-- ---- values

pub type_read : (h : HeardPart) (n : ReadNote) (text : List ℕ) → is_plain_content text ≡ true
    → Reads (noted h n) (element (codes "type") text) (noted h (record n { kind = text }))
unfolding hear_xml_word hear_tag hear_value part_values part_marks
type_read h n text plain = reads_value (noted h n) (noted h (record n { kind = text })) (codes "type") text type_name plain refl

actual_heard : (h : HeardPart) (n : ReadNote) (m : ℕ) → xml_number (decimal m) ≡ Some m
    → hear_xml_word (noted h n) (word (decimal m) (codes "/actual-notes")) ≡ Some (noted h (record n { actual = m }))
unfolding hear_xml_word hear_value part_values
actual_heard h n m number = ap (λ o. o >>= λ m. within_note (noted h n) (λ n. record n { actual = m })) number

normal_heard : (h : HeardPart) (n : ReadNote) (m : ℕ) → xml_number (decimal m) ≡ Some m
    → hear_xml_word (noted h n) (word (decimal m) (codes "/normal-notes")) ≡ Some (noted h (record n { normal = m }))
unfolding hear_xml_word hear_value part_values
normal_heard h n m number = ap (λ o. o >>= λ m. within_note (noted h n) (λ n. record n { normal = m })) number

actual_read : (h : HeardPart) (n : ReadNote) (m : ℕ) → xml_number (decimal m) ≡ Some m
    → Reads (noted h n) (element (codes "actual-notes") (decimal m)) (noted h (record n { actual = m }))
actual_read h n m number = reads_value (noted h n) (noted h (record n { actual = m })) (codes "actual-notes") (decimal m) actual_name
    (decimal_plain m) (actual_heard h n m number)

normal_read : (h : HeardPart) (n : ReadNote) (m : ℕ) → xml_number (decimal m) ≡ Some m
    → Reads (noted h n) (element (codes "normal-notes") (decimal m)) (noted h (record n { normal = m }))
normal_read h n m number = reads_value (noted h n) (noted h (record n { normal = m })) (codes "normal-notes") (decimal m) normal_name
    (decimal_plain m) (normal_heard h n m number)

dot_read : (h : HeardPart) (n : ReadNote) → Reads (noted h n) (empty_element (codes "dot")) (noted h (record n { dots = suc n.dots }))
unfolding empty_element hear_xml_word hear_tag part_values part_marks
dot_read h n more = refl

dots_read : (h : HeardPart) (n : ReadNote) (d k : ℕ)
    → Reads (noted h (record n { dots = d })) (repeat k (empty_element (codes "dot"))) (noted h (record n { dots = k + d }))
dots_read h n d zero =
    let same : d ≡ zero + d = omega arith in
    subst (λ m. Reads (noted h (record n { dots = d })) [] (noted h (record n { dots = m }))) same
    (reads_none (noted h (record n { dots = d })))
dots_read h n d (suc k) =
    let same : k + suc d ≡ suc k + d = omega arith in
    let dot = empty_element (codes "dot") in
    subst (λ m. Reads (noted h (record n { dots = d })) (dot ++ repeat k dot) (noted h (record n { dots = m }))) same
    (reads_both (noted h (record n { dots = d })) (noted h (record n { dots = suc d }))
    (noted h (record n { dots = k + suc d })) dot (repeat k dot)
    (dot_read h (record n { dots = d })) (dots_read h n (suc d) k))

modification_opens : (h : HeardPart) → Reads h (opening (codes "time-modification")) h
unfolding opening hear_xml_word hear_tag part_values part_marks
modification_opens h more = refl

modification_closes : (h : HeardPart) → Reads h (closing (codes "time-modification")) h
unfolding closing hear_xml_word hear_tag part_values part_marks
modification_closes h more = refl

-- one in the time of one is not written
ratio_read : (h : HeardPart) (n : ReadNote) (a m : ℕ) → xml_number (decimal a) ≡ Some a → xml_number (decimal m) ≡ Some m → 1 ≤ a → 1 ≤ m
    → m ≤ a → Reads (noted h (record n { actual = 1; normal = 1 })) (ratio_text a m) (noted h (record n { actual = a; normal = m }))
unfolding ratio_text
ratio_read h n a m first second some some_normal few = go (nat_lt 1 a) refl
  where
    one : List ℕ
    one = element (codes "actual-notes") (decimal a)

    two : List ℕ
    two = element (codes "normal-notes") (decimal m)

    begun : HeardPart
    begun = noted h (record n { actual = 1; normal = 1 })

    whole : HeardPart
    whole = noted h (record n { actual = a; normal = m })

    go : (b : Bool) → nat_lt 1 a ≡ b
        → Reads begun (text_if b (element (codes "time-modification") (one ++ two))) whole
    go true e = reads_element begun begun whole whole (codes "time-modification") (one ++ two) (modification_opens begun)
        (reads_both begun (noted h (record n { actual = a; normal = 1 })) whole one two
        (actual_read h (record n { actual = 1; normal = 1 }) a first)
        (normal_read h (record n { actual = a; normal = 1 }) m second)) (modification_closes whole)
    go false e =
        let actual : 1 ≡ a = let low : a ≤ 1 = grind (arith, nat_tests, e) in omega (arith, low, some) in
        let normal : 1 ≡ m = omega (arith, actual, some_normal, few) in
        let same : begun ≡ whole = λ i. noted h (record n { actual = actual i; normal = normal i }) in
        subst (λ p. Reads begun [] p) same (reads_none begun)

pub value_read : (h : HeardPart) (n : ReadNote) (ratio : Ratio) (v : Value) → IsShown ratio v
    → Reads (noted h (record n { dots = 0; actual = 1; normal = 1 })) (value_text ratio v) (noted h (valued n ratio v))
unfolding value_text
value_read h n ratio v shown =
    let kind = element (codes "type") (type_text v.recip) in
    let dots = repeat v.dots (empty_element (codes "dot")) in
    let n0 : ReadNote = record n { dots = 0; actual = 1; normal = 1 } in
    let n1 : ReadNote = record n { kind = type_text v.recip; dots = 0; actual = 1; normal = 1 } in
    let n2 : ReadNote = record n { kind = type_text v.recip; dots = v.dots; actual = 1; normal = 1 } in
    let last : v.dots + 0 ≡ v.dots = omega arith in
    reads_both (noted h n0) (noted h n2) (noted h (valued n ratio v)) (kind ++ dots) (ratio_text (finer ratio.actual v.recip) ratio.normal)
    (reads_both (noted h n0) (noted h n1) (noted h n2) kind dots (type_read h n0 (type_text v.recip) (type_plain v.recip))
    (subst (λ d. Reads (noted h n1) dots (noted h (record n1 { dots = d }))) last (dots_read h n1 0 v.dots)))
    (ratio_read h n2 (finer ratio.actual v.recip) ratio.normal shown.actual shown.normal shown.some shown.some_normal shown.few_normal)
