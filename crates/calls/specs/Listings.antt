-- What the calls return that say what is in an image.
use Rattle.std.specs.Prelude.{◌≡◌, ℕ, List, ◌++◌, length, map, take, drop}
use Rattle.isa_model.specs.declared.map_defs.MapType.{MapType}
use Rattle.isa_model.specs.declared.map_defs.MapType.TheVariants.{Hash, Array}
use Rattle.isa_model.specs.declared.map_defs.MapDef.{MapDef}
use Rattle.isa_model.specs.Code.Instructions.{Program}
use Rattle.isa_model.specs.Code.Versions.{version_number}
use Rattle.isa_model.specs.Text.CanonicalText.{canonical_text}
use Rattle.image.specs.Images.{IsImage, image_bytes}
use Rattle.calls.specs.Crossing.{FillsBuffer}
use Rattle.calls.specs.declared.describing.MapRow.{MapRow}
use Rattle.calls.specs.declared.describing.Described.{Described}

-- the numbers of the types of map: those of bpf(2)
abbrev pub type_number : MapType → ℕ
type_number Hash = 1
type_number Array = 2

-- a row of an image in numbers
abbrev pub row_in_numbers : MapDef → MapRow
row_in_numbers row =
    record {
      kind = type_number row.kind;
      key_size = row.key_size;
      value_size = row.value_size;
      entries = row.entries;
    }

-- room for rows after rows were written to it, as far as they fit
abbrev pub rows_filled : List MapRow → List MapDef → List MapRow
rows_filled room rows =
    take (length room) (map row_in_numbers rows) ++ drop (length rows) room

-- the bytes are an image, with this version and this many slots and map rows, which are written as
-- far as there is room
pub record DescribesImage (bytes : List ℕ) (old new : List MapRow) (out : Described) : Type 0 where
  pub program : Program
  pub spelled : bytes ≡ image_bytes program
  pub is_image : IsImage program
  pub out_is : out ≡ record {
    slots = length program.insns;
    maps = length program.maps;
    version = version_number program.version;
  }
  pub rows_are : new ≡ rows_filled old program.maps

-- the bytes are an image, and a buffer has the canonical text of its program
pub record FillsImageText (bytes old new : List ℕ) (size : ℕ) : Type 0 where
  pub program : Program
  pub spelled : bytes ≡ image_bytes program
  pub is_image : IsImage program
  pub fills : FillsBuffer old new size (canonical_text program)
