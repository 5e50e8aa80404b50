-- Pieces that are written one after another.
use Rattle.std.proofs.Common.{◌≡◌, ◌∙◌, ℕ, List, [], ◌++◌, refl, sym, subst, append_assoc, append-nil}
use Rattle.mt_io.specs.Seen.{Seen, Stopped, Wrote}
use Rattle.mt_io.proofs.Seen.{stopped_more, stopped_then, wrote_none, wrote_then}

-- all but what is left was written
pub record IsWritten (before after : Seen (List ℕ)) (left all : List ℕ) : Type 0 where
  pub front : List ℕ
  pub joined : front ++ left ≡ all
  pub wrote : Wrote before after front

-- at first all is left
pub all_left : (a : Seen (List ℕ)) (all : List ℕ) → IsWritten a a all all
all_left a all = record { front = []; joined = refl; wrote = wrote_none a }

-- one piece more
pub next_written : (a b c : Seen (List ℕ)) (x left all : List ℕ) → IsWritten a b (x ++ left) all → Wrote b c x → IsWritten a c left all
next_written a b c x left all w g = record {
  front = w.front ++ x;
  joined = append_assoc w.front x left ∙ w.joined;
  wrote = wrote_then a b c w.front x w.wrote g;
}

-- a prefix of the next piece
pub next_stopped : (a b c : Seen (List ℕ)) (x left all : List ℕ) → IsWritten a b (x ++ left) all → Stopped b c x → Stopped a c all
next_stopped a b c x left all w h = subst (Stopped a c) w.joined (stopped_then a b c w.front (x ++ left) w.wrote (stopped_more b c x left h))

-- nothing is left
pub all_written : (a b : Seen (List ℕ)) (all : List ℕ) → IsWritten a b [] all → Wrote a b all
all_written a b all w = subst (Wrote a b) (sym (append-nil w.front) ∙ w.joined) w.wrote

-- what is left, in other words
pub left_as : (a b : Seen (List ℕ)) (x y all : List ℕ) → IsWritten a b x all → x ≡ y → IsWritten a b y all
left_as a b x y all w e = subst (λ z. IsWritten a b z all) e w
