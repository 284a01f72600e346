-- Records of two voices, computed by the definition.
use Rattle.std.specs.Prelude.{◌≡◌, ℕ, List, [], ◌∷◌, codes, refl}
use Rattle.std.specs.List.{flat_map}
use Rattle.kern_writer.specs.Records.{records_at}
use Rattle.kern_writer.specs.Text.{records_text}
use Rattle.kern_writer.specs.Tokens.{Token}

abbrev token : ℕ → List (List ℕ) → List ℕ → Token
token place graces main = record { place = place; graces = graces; main = main }

-- two grace chords beside one, and a voice without a value at the second place
abbrev voices : List (List Token)
voices = (token 0 (codes "qd" ∷ codes "qe" ∷ []) (codes "4c") ∷ token 4 [] (codes "2.r") ∷ []) ∷ (token 0 (codes "qF" ∷ []) (codes "1C") ∷ []) ∷ []

data_records : records_text (flat_map (records_at voices) (0 ∷ 4 ∷ [])) ≡ codes "qd\t.\nqe\tqF\n4c\t1C\n2.r\t.\n"
data_records = refl
