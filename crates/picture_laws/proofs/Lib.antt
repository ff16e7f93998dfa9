-- The root of picture_laws' proofs.
--     panel-file, made-panel-file     after every list of calls from every accepted start, each grey byte of the panel's file is the grey that the
--                                     theorem of `history` gives its pixel
--     panel-written                   and the file is written, wherever there is room for it
--     lut-of-pixel                    the pixel in row y and column x is the one of that row's gate and that column's source
pub mod Sized
pub mod PanelFile
