-- Positions of threads, slot by slot.
use Rattle.std.proofs.Common.{◌≡◌, ℕ, ◌+◌, ◌<◌, ◌≤◌, List, [], ◌∷◌, ◌++◌, sym, ap, ◌∙◌, arith, length, get_or, map, replicate, slice_set}
use Rattle.std.proofs.lemmas.List.{get_or-map, map-append, map-set, set_past, get_or_past, length-map, replicate_more}
use Rattle.elf_image.specs.Layout.{ImageData}
use Rattle.machine_model.specs.Gated.{no_spot}
use Rattle.replay_view.specs.declared.gate.Position.{Position}
use Rattle.replay_view.specs.Gates.{position_of}

pub position_there : (image : ImageData) (spots : List Position) (t : ℕ) (d : Position) → t < length spots → position_of image (get_or spots t d) ≡ get_or (map (position_of image) spots) t no_spot
position_there image spots t d lt = sym (get_or-map (position_of image) spots t d no_spot lt)

pub no_position : (image : ImageData) (spots : List Position) (t : ℕ) → length spots ≤ t → no_spot ≡ get_or (map (position_of image) spots) t no_spot
no_position image spots t le = sym (get_or_past (map (position_of image) spots) t no_spot (let n : length (map (position_of image) spots) ≡ length spots = length-map spots (position_of image) in omega arith))

pub position_set : (image : ImageData) (spots : List Position) (t : ℕ) (p : Position) → map (position_of image) (slice_set spots t p) ≡ slice_set (map (position_of image) spots) t (position_of image p)
position_set image spots t p = map-set (position_of image) spots t p

pub nothing_set : (image : ImageData) (spots : List Position) (t : ℕ) (p : Position) → length spots ≤ t → map (position_of image) spots ≡ slice_set (map (position_of image) spots) t (position_of image p)
nothing_set image spots t p le = sym (set_past (map (position_of image) spots) t (position_of image p) (let n : length (map (position_of image) spots) ≡ length spots = length-map spots (position_of image) in omega arith))

pub one_more : (image : ImageData) (spots : List Position) (n : ℕ) (p : Position) → map (position_of image) spots ≡ replicate n no_spot → position_of image p ≡ no_spot → map (position_of image) (spots ++ p ∷ []) ≡ replicate (n + 1) no_spot
one_more image spots n p h e = map-append (position_of image) spots (p ∷ []) ∙ ap (λ l. l ++ position_of image p ∷ []) h ∙ ap (λ x. replicate n no_spot ++ x ∷ []) e ∙ replicate_more n no_spot
