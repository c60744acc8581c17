-- The number and the name of each rule, their order, and how a fault is printed. The hundreds of a number are the layer.
use Rattle.std.specs.Prelude.{ℕ, List, [], ◌∷◌, ◌++◌, codes, ◌==◌, if◌then◌else◌}
use Rattle.std.specs.Fmt.{decimal}
use Rattle.packed.specs.declared.fault.Fault.{Fault}
use Rattle.packed.specs.declared.code.FaultCode.{FaultCode}
use Rattle.packed.specs.declared.code.FaultCode.TheVariants.{TooLong, DosHeader, PeSignature, OptionalHeader, Pe32PlusSize, Magic, Directories, Sections, NoCliHeader, CliAddress, CliSize, MetadataAddress, RootSignature, Version, StreamCount, StreamHeader, StreamRange, DuplicateStream, Uncompressed, NoTables, TablesHeader, TablesVersion, HeapSizes, UnknownTable, RowCounts, RowCount, TablesShort, BadString, BadUtf8, BadBlob, BadGuid, BadTag, BadIndex, BadList, BadUserString, BadCell, UserBytes, NotSorted, BadRun, NoOwner, NestedOrder, BadSignature, SignatureIndex, EntryPoint, TooLarge}

-- the number of each rule
abbrev pub number_of_code : FaultCode → ℕ
number_of_code TooLong = 101
number_of_code DosHeader = 102
number_of_code PeSignature = 103
number_of_code OptionalHeader = 104
number_of_code Pe32PlusSize = 105
number_of_code Magic = 106
number_of_code Directories = 107
number_of_code Sections = 108
number_of_code NoCliHeader = 201
number_of_code CliAddress = 202
number_of_code CliSize = 203
number_of_code MetadataAddress = 204
number_of_code RootSignature = 301
number_of_code Version = 302
number_of_code StreamCount = 303
number_of_code StreamHeader = 304
number_of_code StreamRange = 305
number_of_code DuplicateStream = 306
number_of_code Uncompressed = 307
number_of_code NoTables = 308
number_of_code TablesHeader = 401
number_of_code TablesVersion = 402
number_of_code HeapSizes = 403
number_of_code UnknownTable = 404
number_of_code RowCounts = 405
number_of_code RowCount = 406
number_of_code TablesShort = 407
number_of_code BadString = 501
number_of_code BadUtf8 = 502
number_of_code BadBlob = 503
number_of_code BadGuid = 504
number_of_code BadTag = 505
number_of_code BadIndex = 506
number_of_code BadList = 507
number_of_code BadUserString = 508
number_of_code BadCell = 509
number_of_code UserBytes = 510
number_of_code NotSorted = 601
number_of_code BadRun = 602
number_of_code NoOwner = 603
number_of_code NestedOrder = 604
number_of_code BadSignature = 701
number_of_code SignatureIndex = 702
number_of_code EntryPoint = 801
number_of_code TooLarge = 901

-- all rules, lowest number first
abbrev pub codes_in_order : List FaultCode
codes_in_order =
    TooLong ∷ DosHeader ∷ PeSignature ∷ OptionalHeader ∷ Pe32PlusSize ∷ Magic ∷ Directories ∷ Sections
    ∷ NoCliHeader ∷ CliAddress ∷ CliSize ∷ MetadataAddress
    ∷ RootSignature ∷ Version ∷ StreamCount ∷ StreamHeader ∷ StreamRange ∷ DuplicateStream ∷ Uncompressed ∷ NoTables
    ∷ TablesHeader ∷ TablesVersion ∷ HeapSizes ∷ UnknownTable ∷ RowCounts ∷ RowCount ∷ TablesShort
    ∷ BadString ∷ BadUtf8 ∷ BadBlob ∷ BadGuid ∷ BadTag ∷ BadIndex ∷ BadList ∷ BadUserString ∷ BadCell ∷ UserBytes
    ∷ NotSorted ∷ BadRun ∷ NoOwner ∷ NestedOrder
    ∷ BadSignature ∷ SignatureIndex
    ∷ EntryPoint
    ∷ TooLarge ∷ []

-- each rule's number with its name
abbrev pub names : List (ℕ × List ℕ)
names =
    (101, codes "TooLong") ∷
    (102, codes "DosHeader") ∷
    (103, codes "PeSignature") ∷
    (104, codes "OptionalHeader") ∷
    (105, codes "Pe32PlusSize") ∷
    (106, codes "Magic") ∷
    (107, codes "Directories") ∷
    (108, codes "Sections") ∷
    (201, codes "NoCliHeader") ∷
    (202, codes "CliAddress") ∷
    (203, codes "CliSize") ∷
    (204, codes "MetadataAddress") ∷
    (301, codes "RootSignature") ∷
    (302, codes "Version") ∷
    (303, codes "StreamCount") ∷
    (304, codes "StreamHeader") ∷
    (305, codes "StreamRange") ∷
    (306, codes "DuplicateStream") ∷
    (307, codes "Uncompressed") ∷
    (308, codes "NoTables") ∷
    (401, codes "TablesHeader") ∷
    (402, codes "TablesVersion") ∷
    (403, codes "HeapSizes") ∷
    (404, codes "UnknownTable") ∷
    (405, codes "RowCounts") ∷
    (406, codes "RowCount") ∷
    (407, codes "TablesShort") ∷
    (501, codes "BadString") ∷
    (502, codes "BadUtf8") ∷
    (503, codes "BadBlob") ∷
    (504, codes "BadGuid") ∷
    (505, codes "BadTag") ∷
    (506, codes "BadIndex") ∷
    (507, codes "BadList") ∷
    (508, codes "BadUserString") ∷
    (601, codes "NotSorted") ∷
    (602, codes "BadRun") ∷
    (603, codes "NoOwner") ∷
    (604, codes "NestedOrder") ∷
    (701, codes "BadSignature") ∷
    (702, codes "SignatureIndex") ∷
    (801, codes "EntryPoint") ∷
    (901, codes "TooLarge") ∷ []

-- the name of the first pair that has this number, or the empty text if none has it
abbrev pub name_among : List (ℕ × List ℕ) → ℕ → List ℕ
name_among [] number = []
name_among (pair ∷ pairs) number = if number == pair.0 then pair.1 else name_among pairs number

-- the name of the rule with this number, or the empty text if no rule has it
abbrev pub name_of : ℕ → List ℕ
name_of number = name_among names number

-- how a fault is printed: `fault LAYER CODE at OFFSET: NAME`, with decimal numbers
abbrev pub fault_text : Fault → List ℕ
fault_text found =
    codes "fault " ++ decimal found.layer ++ codes " " ++ decimal found.code ++ codes " at " ++ decimal found.offset
    ++ codes ": " ++ name_of found.code
