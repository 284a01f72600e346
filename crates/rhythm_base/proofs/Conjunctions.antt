-- One fact, and then another.

pub and_then : {A B : Type 0} → A → B → A × B
and_then a b = (a, b)
