-- A payload at its place in a frame's room.
use Rattle.std.proofs.Common.{◌≡◌, ℕ, ◌+◌, ◌≤◌, List, ◌++◌, length, take, drop, ap, ◌∙◌, arith}
use Rattle.std.proofs.lemmas.List.{take_at, drop_at, take-append-le, length-take, length-take-le}
use Rattle.oplog_file.specs.Frames.{frame_spelling}
use borrow.Rule.Slice.PartMut.{put_mid, post_of}

pub filled : (k : ℕ) (frame payload copied : List ℕ) → copied ≡ payload → 32 + length payload ≤ length frame → take (length payload) (drop 32 (put_mid 32 k frame copied)) ≡ payload
filled k frame payload copied same room =
    ap (take (length payload)) (drop_at (take 32 frame) (copied ++ post_of 32 k frame) 32 (length-take-le 32 frame (omega (arith, room))))
    ∙ take_at copied (post_of 32 k frame) (length payload) (ap length same)
    ∙ same

pub spelled_with : (epoch number : ℕ) (bytes one other : List ℕ) → bytes ≡ frame_spelling (record { epoch = epoch; number = number; payload = one }) → one ≡ other
    → bytes ≡ frame_spelling (record { epoch = epoch; number = number; payload = other })
spelled_with epoch number bytes one other is same = is ∙ ap (λ l. frame_spelling (record { epoch = epoch; number = number; payload = l })) same

-- the front of a room that was filled and given back
pub given_back : (n len : ℕ) (filled rest now text : List ℕ) → now ≡ take len (filled ++ rest) → length filled ≡ len → take n filled ≡ text → take n now ≡ text
given_back n len filled rest now text is size spelled = ap (take n) (is ∙ take_at filled rest len size) ∙ spelled

pub filled_front : (n k : ℕ) (frame copied text : List ℕ) → 32 ≤ length frame → n ≡ length text → take n copied ≡ text → take n (drop 32 (put_mid 32 k frame copied)) ≡ text
filled_front n k frame copied text room n_is same =
    ap (take n) (drop_at (take 32 frame) (copied ++ post_of 32 k frame) 32 (length-take-le 32 frame room))
    ∙ take-append-le n copied (post_of 32 k frame) (omega (arith, ap length same, n_is, length-take n copied))
    ∙ same
