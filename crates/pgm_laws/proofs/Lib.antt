-- The root of pgm_laws' proofs: the theorems of #109.
--     form-accepted, form-only     a header is accepted where the file has the form, and nowhere else
--     not-the-form, read-file      so what reading answers of every file
--     file-written, header-fits    what writing answers where nothing refuses it; 15 bytes hold every header
--     written-read                 a written file, read, gives the picture
--     header-then-pixels           a header written, and then the pixels: the same file
--     read-file-of, read-written   each accepted file is the one written for its picture
--     one-file                     equal files have equal size and picture
--     write-past, header-past, read-past, write-alone, header-alone, read-alone     bytes past the result stay; a refusal leaves the buffer alone
--     smallest, nine-by-ten, ninety-nine-by-a-hundred, largest     headers as they stand in files
pub mod Examples
pub mod Decimals
pub mod Forms
pub mod Cases
pub mod Pictures
pub mod Buffers
